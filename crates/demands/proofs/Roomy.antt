-- Segment tables of one route at most, in stores that have room for them, and a lookup in a first table of zeros. Assumes nothing.
use mathlib.Core.Path.{◌≡◌, ap, ◌∙◌}
use mathlib.Core.List.{List}
use Prim.Native.Nat.{ℕ, zero, suc, ◌^◌, ◌≤◌}
use native.Mathlib.Omega.{arith}
use lib.ListN.{length, get_or, replicate, length-replicate}
use borrow.Author.Tests.{le-leb}
use Rattle.refusals.specs.Refusals.{accepted}
use Rattle.refusals.specs.declared.Answer.{Answer}
use Rattle.routes.specs.Routes.{route_at, route_count, Words}
use Rattle.routes.specs.Check.{list_check}
use Rattle.routes.specs.declared.Route.{Route}
use Rattle.segment_rules.specs.Packed.{block_size, packed_size}
use Rattle.segment_rules.specs.Tables.{first_size, first_table, packed_store, plain_store, last_store}
use Rattle.segment_rules.specs.Lookup.{first_read, lookup_in}
use Rattle.segment_rules.specs.Build.{Stores, Left, stores, segments_into, build_segments, lookup_stores}
use Rattle.segment_rules.proofs.Stores.{length_first, length_packed_store, length_plain_store, length_last_store, numbers_fit}
use Rattle.segment_rules.proofs.AfterBuild.{build_into_lem}
use Rattle.demands.specs.SegmentChecks.{SixteenBits}

-- room for the first table and for a block of each kind
pub record Roomy (s : Stores) : Type 0 where
  pub first : first_size ≤ length s.first
  pub packed : packed_size ≤ length s.packed
  pub plain : block_size ≤ length s.plain
  pub last : block_size ≤ length s.last

-- so the tables of one route have room
few_segmented : (R : ℕ → Route) (n : ℕ) (s : Stores) → n ≤ 1 → Roomy s → (segments_into R n s).built.number ≡ 0
unfolding segments_into
few_segmented R n s few room =
    let segments = (numbers_fit R n (2 ^ 16)).0 in
    rw (
      le-leb (length (first_table R n)) (length s.first) (omega (arith, length_first R n, room.first)),
      le-leb (length (packed_store R n)) (length s.packed) (omega (arith, length_packed_store R n, segments, room.packed)),
      le-leb (length (plain_store R n)) (length s.plain) (omega (arith, length_plain_store R n, segments, room.plain)),
      le-leb (length (last_store R n)) (length s.last) (omega (arith, length_last_store R n, (numbers_fit R n (2 ^ 24)).1, room.last)),
    )

pub few_built : (list : List ℕ) (s : Stores) → list_check 32 list ≡ accepted 0 → route_count list ≤ 1 → Roomy s
    → (build_segments list s).built.number ≡ 0
few_built list s fine few room =
    ap (λ (x : Left). x.built.number) (build_into_lem list s (ap (λ (y : Answer). y.number) fine))
    ∙ few_segmented (route_at list) (route_count list) s few room

-- an entry 0 of the first table is the port 0
pub zero_found : (s : Stores) → first_size ≤ length s.first → get_or s.first 0 0 ≡ 0 → (lookup_stores s 0).number ≡ 0
unfolding lookup_in first_read
zero_found s long is = rw (le-leb first_size (length s.first) long, is)

-- zeros, as many as that
abbrev zeros : ℕ → List ℕ
zeros k = replicate k 0

abbrev pub zero_stores : Stores
zero_stores = stores (zeros first_size) (zeros packed_size) (zeros block_size) (zeros block_size)

long_zeros : (k : ℕ) → k ≤ length (zeros k)
long_zeros k = let z : length (zeros k) ≡ k = length-replicate k 0 in omega arith

zeros_fit : (k : ℕ) → Words 16 (zeros k)
zeros_fit zero i = omega arith
zeros_fit (suc k) zero = omega arith
zeros_fit (suc k) (suc i) = zeros_fit k i

pub zeros_roomy : Roomy zero_stores
zeros_roomy = record {
  first = long_zeros first_size;
  packed = long_zeros packed_size;
  plain = long_zeros block_size;
  last = long_zeros block_size;
}

pub zeros_bits : SixteenBits zero_stores
zeros_bits = record {
  first = zeros_fit first_size;
  packed = zeros_fit packed_size;
  plain = zeros_fit block_size;
  last = zeros_fit block_size;
}
