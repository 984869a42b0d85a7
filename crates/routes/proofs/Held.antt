-- The plain scan of a valid list is that of the set that the list holds, by the bits of its prefixes: RULES, "The plain scan".
-- Assumes nothing.
use mathlib.Core.Path.{◌≡◌, refl, sym, ap, ◌∙◌}
use mathlib.Core.Bool.{Bool}
use mathlib.Core.List.{List, [], ◌∷◌, map, Memᴰ}
use Prim.Native.Nat.{ℕ, zero, suc, ◌+◌, ◌^◌, ◌≤◌, ◌<◌}
use native.Mathlib.Omega.{arith}
use lib.ListN.{length}
use Rattle.bits.specs.Bits.{bits, begins}
use Rattle.bits.proofs.Bits.{matches_begins, length_take_bits}
use Rattle.trie.specs.Routes.{Route as BitRoute, Distinct, Ported}
use Rattle.trie.specs.Scan.{longest, plain_scan}
use Rattle.trie.proofs.Listed.{head_in, tail_in, scan_list_is_scan}
use Rattle.routes.specs.Routes.{bit_route, ValidList}
use Rattle.lists.specs.Numbered.{list_of}
use Rattle.routes.specs.Scan.{route_matches}
use Rattle.routes.specs.Theorems.{ScanIsHeld}
use Rattle.routes.specs.declared.Route.{Route}
use Rattle.lists.proofs.Numbered.{mem_list_of, map_list_of}
use Rattle.routes.proofs.Rising.{prefixes_differ}

-- routes of one kind read as routes of another
module _ {X Y : Type 0} (match : X → Bool) (len port : X → ℕ) (match' : Y → Bool) (len' port' : Y → ℕ) (f : X → Y) where
  pub record Alike (x : X) : Type 0 where
    pub matched : match x ≡ match' (f x)
    pub long : len x ≡ len' (f x)
    pub ported : port x ≡ port' (f x)

  longest_map : (xs : List X) → ((x : X) → Memᴰ x xs → Alike x)
      → longest match len port xs ≡ longest match' len' port' (map f xs)
  unfolding longest
  longest_map [] h = refl
  longest_map (x ∷ xs) h =
      let e = h x (head_in x xs) in rw (longest_map xs (λ y m. h y (tail_in x xs m)), e.matched, e.long)

  pub plain_scan_map : (xs : List X) → ((x : X) → Memᴰ x xs → Alike x)
      → plain_scan match len port xs ≡ plain_scan match' len' port' (map f xs)
  unfolding plain_scan
  plain_scan_map [] h = refl
  plain_scan_map (x ∷ xs) h =
      let e = h x (head_in x xs) in
      let rest : ((y : X) → Memᴰ y xs → Alike y) = (λ y m. h y (tail_in x xs m)) in
      rw (longest_map xs rest, plain_scan_map xs rest, e.matched, e.long, e.ported)

module _ (w : ℕ) (R : ℕ → Route) (n : ℕ) (ok : ValidList w R n) where
  -- route i by its bits
  abbrev pub bit_at : ℕ → BitRoute
  bit_at i = bit_route w (R i)

  -- no two of them have one prefix
  pub bits_distinct : (k i : ℕ) → i + k ≤ n → Distinct (list_of bit_at k i)
  unfolding list_of
  bits_distinct zero i h = tt
  bits_distinct (suc k) i h = (differ, bits_distinct k (i + 1) (omega arith))
    where
      differ : (x : BitRoute) → Memᴰ x (list_of bit_at k (i + 1)) → x.prefix ≡ (bit_at i).prefix → ⊥
      differ x m e =
          let s = mem_list_of bit_at k (i + 1) x m in
          prefixes_differ w R n ok i s.at (omega arith) (omega arith) (sym (ap (λ (r : BitRoute). r.prefix) s.is) ∙ e)

  bits_ported : Ported (list_of bit_at n 0)
  bits_ported x m =
      let s = mem_list_of bit_at n 0 x m in
      rw s.is (ok.each s.at (omega arith)).some

  bits_alike : (a : ℕ) → a < 2 ^ w → (x : Route) → Memᴰ x (list_of R n 0)
      → Alike (route_matches w a) (λ r. r.len) (λ r. r.port)
      (λ r. begins r.prefix (bits w a)) (λ r. length r.prefix) (λ r. r.port) (bit_route w) x
  bits_alike a h x m =
      let s = mem_list_of R n 0 x m in
      let p = rw (← s.is) at (ok.each s.at (omega arith)).prefix in
      record {
        matched = matches_begins w x.value x.len a p.short p.fits h;
        long = sym (length_take_bits x.len w x.value p.short);
        ported = refl;
      }

pub scan_is_held : ScanIsHeld
scan_is_held w R n a ok h =
    plain_scan_map (route_matches w a) (λ r. r.len) (λ r. r.port)
    (λ r. begins r.prefix (bits w a)) (λ r. length r.prefix) (λ r. r.port) (bit_route w)
    (list_of R n 0) (bits_alike w R n ok a h)
    ∙ scan_list_is_scan (map (bit_route w) (list_of R n 0)) (bits w a)
    (rw (map_list_of (bit_route w) R n 0) (bits_distinct w R n ok n 0 (omega arith)))
    (rw (map_list_of (bit_route w) R n 0) (bits_ported w R n ok))
