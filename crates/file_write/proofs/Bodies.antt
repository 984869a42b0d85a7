-- The bytes of a valid list's routes: how many they are, and room for each. Assumes nothing.
use mathlib.Core.Path.{◌≡◌, refl, sym, ap, ◌∙◌}
use mathlib.Core.List.{List}
use Prim.Native.Nat.{ℕ, ◌+◌, ◌*◌, ◌≤◌, ◌<◌}
use native.Mathlib.Omega.{arith}
use lib.ListN.{length}
use borrow.Author.Tests.{leb-true}
use Rattle.routes.specs.Bounds.{most_routes}
use Rattle.routes.specs.Routes.{route_at, route_count}
use Rattle.routes.specs.Check.{fault_at, list_check}
use Rattle.refusals.specs.declared.Answer.{Answer}
use Rattle.routes.specs.declared.Route.{Route}
use Rattle.routes.proofs.Faults.{fault_none}
use Rattle.routes.proofs.First.{accepted_none}
use Rattle.routes.proofs.Check.{accepted_sized, list_check_sized}
use Rattle.octets.proofs.Parts.{Coding, Summed, Laid, summed_le, summed_all, laid_next}
use Rattle.file_rules.specs.File.{head_size, size_for, route_bytes}
use Rattle.file_rules.proofs.Whole.{length_route_bytes}
use Rattle.file_write.specs.Needs.{BodySize, FitsFile}

-- a route is written as its prefix and its port
abbrev pub route_coding : ℕ → Coding Route
route_coding w = record { bytes = route_bytes w; size = λ r. size_for r.len; sized = length_route_bytes w }

-- no route of a list that the check accepts is longer than an address
listed_short : (w : ℕ) (list : List ℕ) → (list_check w list).number ≡ 0 → (i : ℕ) → i < route_count list → (route_at list i).len ≤ w
listed_short w list valid i h =
    let e = ap (λ (a : Answer). a.number) (sym (list_check_sized w list (accepted_sized w list valid))) ∙ valid in
    leb-true (route_at list i).len w (fault_none w (route_at list) i (accepted_none (fault_at w (route_at list)) (route_count list) e i h)).short

module _ (w : ℕ) (list : List ℕ) where
  -- the size of the first i routes is known
  abbrev pub Counted : ℕ → ℕ → Type 0
  Counted size i = Summed (route_coding w) (route_at list) (route_count list) size i

  module _ (valid : (list_check w list).number ≡ 0) (size i : ℕ) (so : Counted size i) where
    -- no route takes more than the longest prefix makes it
    pub counted_small : size ≤ most_routes * size_for w
    counted_small =
        summed_le (route_coding w) (route_at list) (route_count list) size i so most_routes (size_for w) (accepted_sized w list valid).few
        (λ j h. omega (arith, listed_short w list valid j h))

    pub counted_all : route_count list ≤ i → BodySize w list size
    counted_all h =
        record { is = summed_all (route_coding w) (route_at list) (route_count list) size i so h; small = counted_small }

  module _ (file₀ : List ℕ) where
    -- the first i routes are stored after the head, and the next one goes to an offset
    abbrev pub Bodied : List ℕ → ℕ → ℕ → Type 0
    Bodied file at i = Laid (route_coding w) (route_at list) (route_count list) head_size file₀ file at i

    pub bodied_room : FitsFile w list file₀ → (file : List ℕ) (at i : ℕ) → Bodied file at i → i < route_count list
        → (r : Route) → r ≡ route_at list i → (at + size_for r.len ≤ length file) × (r.len ≤ w)
    bodied_room fits file at i so h r r-is = (
      laid_next (route_coding w) (route_at list) (route_count list) head_size file₀ fits.room file at i so h _ r r-is refl,
      rw r-is (listed_short w list fits.valid i h),
    )
