-- The tests of the reader on the head of a file, as the code makes them. Assumes nothing.
use mathlib.Core.Path.{◌≡◌, sym, ◌∙◌}
use mathlib.Core.List.{List}
use Prim.Native.Nat.{ℕ, ◌-◌, ◌≤◌, ◌<◌}
use lib.ListN.{length, get_or}
use borrow.Author.Tests.{le-leb, lt-leb, eq-eqb, ne_eqb}
use Rattle.refusals.specs.Refusals.{short_file, wrong_version, wrong_size}
use Rattle.file_rules.specs.File.{version, head_size, stated_size}
use Rattle.file_rules.specs.Check.{head_fault}

-- 1, 2, 3 (size)
module _ (file : List ℕ) where
  pub head_short : length file < head_size → short_file ≡ head_fault file
  unfolding head_fault
  head_short h = simp (lt-leb head_size (length file) h)

  module _ (long : head_size ≤ length file) where
    pub head_other : (get_or file 0 0 ≡ version → ⊥) → wrong_version ≡ head_fault file
    unfolding head_fault
    head_other n = simp (le-leb head_size (length file) long, ne_eqb (get_or file 0 0) version n)

    module _ (one : get_or file 0 0 ≡ version) (stated : ℕ) (stated-is : stated ≡ stated_size file) where
      pub head_sized : stated ≡ length file - head_size → 0 ≡ head_fault file
      unfolding head_fault
      head_sized e =
          simp (le-leb head_size (length file) long, eq-eqb (get_or file 0 0) version one, eq-eqb (stated_size file) (length file - head_size) (sym stated-is ∙ e))

      pub head_unsized : (stated ≡ length file - head_size → ⊥) → wrong_size ≡ head_fault file
      unfolding head_fault
      head_unsized n =
          simp (le-leb head_size (length file) long, eq-eqb (get_or file 0 0) version one, ne_eqb (stated_size file) (length file - head_size) (λ e. n (stated-is ∙ e)))
