-- The head of a sheet: which of refusals 1 to 4 applies, each where those before it do not, and what is told then.
-- Assumes nothing.
use mathlib.Core.Path.{◌≡◌}
use mathlib.Core.List.{List}
use Prim.Native.Nat.{ℕ, ◌≤◌, ◌<◌}
use lib.ListN.{length}
use borrow.Author.Tests.{lt-ltb, le-ltb, eq-eqb, ne_eqb}
use Rattle.refusals.specs.Numbers.{accepted, too_short, bad_version, too_many, bad_length}
use Rattle.refusals.specs.Told.{first, alone, at_entry}
use Rattle.entries.specs.declared.refusal.Refusal.{Refusal}
use Rattle.entries.specs.Refusal.{refusal_number}
use Rattle.entries.proofs.Chosen.{never_accepted}
use Rattle.entries.specs.Layout.{version_of, count_of, length_field, entry_at}
use Rattle.sheet.specs.Table.{max_entries, head_number, entries_told, judged}

module _ (s : List ℕ) where
  -- ---- what is told

  pub told_of_head : (r : Refusal) → head_number s ≡ refusal_number r → judged s ≡ alone (refusal_number r)
  unfolding judged at_entry
  told_of_head r h = rw (h, never_accepted r)

  pub told_of_entries : head_number s ≡ accepted → judged s ≡ entries_told s 0 (count_of s)
  unfolding judged at_entry
  told_of_entries h = rw h

  -- ---- which number

  pub too_short_lem : length s < 4 → head_number s ≡ too_short
  unfolding head_number first
  too_short_lem h = rw (lt-ltb (length s) 4)

  module _ (long : 4 ≤ length s) where
    pub bad_version_lem : (version_of s ≡ 1 → ⊥) → head_number s ≡ bad_version
    unfolding head_number first
    bad_version_lem d = rw (le-ltb (length s) 4, ne_eqb (version_of s) 1)

    module _ (first_version : version_of s ≡ 1) where
      pub too_many_lem : max_entries < count_of s → head_number s ≡ too_many
      unfolding head_number first
      too_many_lem h = rw (le-ltb (length s) 4, eq-eqb (version_of s) 1, lt-ltb max_entries (count_of s))

      module _ (few : count_of s ≤ max_entries) where
        pub length_differs : (length_field s ≡ length s → ⊥) → head_number s ≡ bad_length
        unfolding head_number first
        length_differs d = rw (
          le-ltb (length s) 4,
          eq-eqb (version_of s) 1,
          le-ltb max_entries (count_of s),
          ne_eqb (length_field s) (length s),
        )

        module _ (same : length_field s ≡ length s) where
          pub contents_cut : length s < entry_at (count_of s) → head_number s ≡ bad_length
          unfolding head_number first
          contents_cut h = rw (
            le-ltb (length s) 4,
            eq-eqb (version_of s) 1,
            le-ltb max_entries (count_of s),
            eq-eqb (length_field s) (length s),
            lt-ltb (length s) (entry_at (count_of s)),
          )

          pub head_passes : entry_at (count_of s) ≤ length s → head_number s ≡ accepted
          unfolding head_number first
          head_passes h = rw (
            le-ltb (length s) 4,
            eq-eqb (version_of s) 1,
            le-ltb max_entries (count_of s),
            eq-eqb (length_field s) (length s),
            le-ltb (length s) (entry_at (count_of s)),
          )
