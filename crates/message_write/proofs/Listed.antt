-- The prefixes of a valid list: how many bytes they take, and room for each. Assumes nothing.
use mathlib.Core.Path.{◌≡◌, refl}
use mathlib.Core.List.{List}
use Prim.Native.Nat.{ℕ, ◌+◌, ◌*◌, ◌≤◌, ◌<◌}
use native.Mathlib.Omega.{arith}
use lib.ListN.{length}
use Rattle.routes.specs.Bounds.{most_routes}
use Rattle.routes.specs.Routes.{route_at, route_count, ValidList}
use Rattle.routes.specs.declared.Route.{Route}
use Rattle.octets.specs.Octets.{prefix_size, prefix_octets}
use Rattle.octets.proofs.Prefixes.{length_prefix_octets}
use Rattle.octets.proofs.Parts.{Coding, Summed, Laid, summed_le, summed_all, laid_next}
use Rattle.message_rules.specs.Message.{withdrawn_at}
use Rattle.message_write.specs.Needs.{PrefixesSize, FitsMessage}

-- a route is written as its prefix
abbrev pub prefix_coding : ℕ → Coding Route
prefix_coding w = record {
  bytes = λ r. prefix_octets w r.value r.len;
  size = λ r. prefix_size r.len;
  sized = λ r. length_prefix_octets w r.value r.len;
}

module _ (w : ℕ) (list : List ℕ) where
  -- the size of the first i prefixes is known
  abbrev pub Counted : ℕ → ℕ → Type 0
  Counted size i = Summed (prefix_coding w) (route_at list) (route_count list) size i

  module _ (ok : ValidList w (route_at list) (route_count list)) (size i : ℕ) (so : Counted size i) where
    -- no prefix takes more than the longest does
    pub counted_small : size ≤ most_routes * prefix_size w
    counted_small =
        summed_le (prefix_coding w) (route_at list) (route_count list) size i so most_routes (prefix_size w) ok.few
        (λ j h. omega (arith, (ok.each j h).prefix.short))

    pub counted_all : route_count list ≤ i → PrefixesSize w list size
    counted_all h =
        record { is = summed_all (prefix_coding w) (route_at list) (route_count list) size i so h; small = counted_small }

  module _ (message₀ : List ℕ) where
    -- the first i prefixes are stored after the head, and the next one goes to an offset
    abbrev pub Listed : List ℕ → ℕ → ℕ → Type 0
    Listed message at i = Laid (prefix_coding w) (route_at list) (route_count list) withdrawn_at message₀ message at i

    pub listed_room : FitsMessage w list message₀ → (message : List ℕ) (at i : ℕ) → Listed message at i → i < route_count list
        → (r : Route) → r ≡ route_at list i → (at + prefix_size r.len ≤ length message) × (r.len ≤ w)
    listed_room fits message at i so h r r-is = (
      laid_next (prefix_coding w) (route_at list) (route_count list) withdrawn_at message₀ fits.room message at i so h _ r r-is refl,
      rw r-is (fits.valid.each i h).prefix.short,
    )
