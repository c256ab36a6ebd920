-- `torque::column_sum` meets its contract: the products, added in order. Assumes nothing.
use mathlib.Core.Path.{◌≡◌, refl, ◌∙◌}
use mathlib.Core.List.{List, [], ◌∷◌}
use lib.ListN.{get_or}
use lib.Ieee.{Float, nan}
use Rattle.std.proofs.Common.{rules}
use Rattle.std.proofs.lemmas.Iterator.{YieldsList-from_slice, YieldsList-from_zip}
use Rattle.std.proofs.lemmas.Iterator.Consumers.{fold_from_yields_List}
use Rattle.std.specs.List.{fold, zip}
use Rattle.binary32.specs.Arithmetic.{◌+f◌, ◌*f◌, 0f}
use Rattle.rules.specs.Rows.{Row, quad_rows}
use Rattle.rules.specs.Torque.{summed}
use Rattle.torque.proofs.column_sum.Goals as goal

folds : (column : Row → Float) (s : Float) (rows : List Row) (ms : List Float)
    → fold (λ (t : Float) (p : Row × Float). t +f column p.0 *f p.1) s (zip rows ms) ≡ summed column s rows ms
unfolding summed
folds column s [] ms = refl
folds column s (row ∷ rows) [] = refl
folds column s (row ∷ rows) (m ∷ ms) = folds column (s +f column row *f m) rows ms

pub returns : goal.returns
unfolding quad_rows
returns c =
    let args = c.args in
    fold_from_yields_List _ (λ (t : Float) (p : Row × Float). t +f get_or p.0 args.column nan *f p.1) 0f _
    c.fold.ensures.ran
    (YieldsList-from_zip (YieldsList-from_slice quad_rows (search rules))
    (YieldsList-from_slice args.motors (search rules)))
    (λ a x b q k. search rules)
    ∙ folds (λ (row : Row). get_or row args.column nan) 0f quad_rows args.motors
