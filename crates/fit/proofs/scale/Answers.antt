-- `fit::scale` meets its contract: the smallest limit, or 1 where no limit is under 1. That the answer lies in 0..1,
-- and is 1 where the command fits, are laws about the definition. Assumes nothing.
use mathlib.Core.Path.{◌≡◌, sym, ◌∙◌}
use mathlib.Core.List.{List}
use Prim.Native.Nat.{ℕ}
use lib.Dec.{T}
use lib.ListN.{get_or}
use lib.Ieee.{Float, nan, binary32, fits}
use Rattle.fit.specs.Fit.{fit_scale, Scaled}
use Rattle.fit.proofs.Bounded.{scale_between, scale_finite}
use Rattle.fit.proofs.Fitting.{scale_fitting}
use Rattle.fit.proofs.Cut.{uncut_scale}
use Rattle.fit.proofs.scale.Goals as goal

keeps : (floor : Float) (bs ds : List Float) → T (fits binary32 floor) → ((k : ℕ) → T (fits binary32 (get_or bs k nan)))
    → ((k : ℕ) → T (fits binary32 (get_or ds k nan)))
    → {r : Float} → r ≡ fit_scale floor bs ds → Scaled floor bs ds r
keeps floor bs ds ff fb fd is =
    record {
      is = is;
      number = rw is (scale_finite floor bs ds);
      bounded = rw is (scale_between floor bs ds);
      fitting = λ hf w. is ∙ scale_fitting floor bs ds (record { fits = ff; finite = hf }) fb fd w;
    }

pub returns-then-is_cut : goal.returns-then-is_cut
returns-then-is_cut c =
    keeps _ _ _ (rw c.well_formed.1.1.0.1 tt) c.shared_slice_known-1.given
    c.shared_slice_known-2-1.given c.smallest.ensures

pub returns : goal.returns
returns c =
    keeps _ _ _ (rw c.well_formed.1.1.0.1 tt) c.shared_slice_known-1.given
    c.shared_slice_known-2-1.given
    (sym (uncut_scale _ _ _ (sym c.is_cut.ensures ∙ c.if-is_cut.false)))
