-- The places of a file's routes, and what a route without a fault has passed. Assumes nothing.
use mathlib.Core.Path.{◌≡◌, refl}
use mathlib.Core.Logic.{◌⊎◌, inl, inr}
use mathlib.Core.Bool.{Bool, true, false}
use mathlib.Core.List.{List}
use Prim.Native.Nat.{ℕ, zero, suc, ◌+◌, ◌*◌, ◌≤◌, ◌<◌}
use native.Mathlib.Omega.{arith}
use native.Mathlib.Numerals.{add-one}
use native.Mathlib.Nat.{suc-mul}
use lib.Dec.{leb, ltb}
use lib.ListN.{length}
use borrow.Author.Tests.{le-leb, leb-true, lt-ltb, ltb-true}
use Rattle.refusals.specs.Refusals.{wrong_size, too_many_routes, long_prefix, spare_bits, wrong_port, not_above, unless}
use Rattle.routes.specs.Bounds.{most_routes}
use Rattle.routes.specs.Check.{is_port, above}
use Rattle.routes.proofs.Faults.{or_fault, unless_none}
use Rattle.routes.proofs.First.{NoneBelow}
use Rattle.octets.specs.Octets.{len_at}
use Rattle.file_rules.specs.File.{head_size, size_for, place_of, file_route}
use Rattle.file_rules.specs.Check.{frame_fault, file_fault, Entire}

-- places

pub place_more : (file : List ℕ) (i : ℕ) → place_of file (i + 1) ≡ place_of file i + size_for (len_at file (place_of file i))
unfolding place_of
place_more file i = rw (add-one i)

-- a route has three bytes or more
pub place_begun : (file : List ℕ) (i : ℕ) → head_size + i * 3 ≤ place_of file i
unfolding place_of
place_begun file zero = omega arith
place_begun file (suc i) = omega (arith, place_begun file i)

-- faults

-- what follows the frame is asked where it finds nothing
pub frame_fault_rest : (w : ℕ) (file : List ℕ) (i at rest : ℕ) → frame_fault w file i at rest ≡ or_fault (frame_fault w file i at 0) rest
frame_fault_rest w file i at rest = go (ltb i most_routes) (leb (len_at file at) w) (leb (at + size_for (len_at file at)) (length file))
  where
    go : (a b c : Bool)
        → unless a too_many_routes (unless b long_prefix (unless c wrong_size rest))
        ≡ or_fault (unless a too_many_routes (unless b long_prefix (unless c wrong_size 0))) rest
    go true true true = refl
    go true true false = refl
    go true false c = refl
    go false b c = refl

-- no fault of the frame: the route is there whole
pub frame_none : (w : ℕ) (file : List ℕ) (i at rest : ℕ) → frame_fault w file i at rest ≡ 0
    → (i < most_routes) × Entire w file at × (rest ≡ 0)
frame_none w file i at rest e =
    let a = unless_none (ltb i most_routes) 7 _ e in
    let b = unless_none (leb (len_at file at) w) 3 _ a.1 in
    let c = unless_none (leb (at + size_for (len_at file at)) (length file)) 2 rest b.1 in (
      ltb-true i most_routes a.0,
      record { short = leb-true (len_at file at) w b.0; uncut = leb-true (at + size_for (len_at file at)) (length file) c.0 },
      c.1,
    )

-- route i of a file has no fault
pub record Sound (w : ℕ) (file : List ℕ) (i : ℕ) : Type 0 where
  pub few : i < most_routes
  pub entire : Entire w file (place_of file i)
  pub ported : is_port (file_route w file i).port ≡ true
  pub rises : above (file_route w file) i ≡ true

pub fault_none : (w : ℕ) (file : List ℕ) (i : ℕ) → file_fault w file i ≡ 0 → Sound w file i
unfolding file_fault
fault_none w file i e =
    let a = frame_none w file i (place_of file i) _ e in
    let b = unless_none (is_port (file_route w file i).port) 5 _ a.2 in
    let c = unless_none (above (file_route w file) i) 6 0 b.1 in
    record { few = a.0; entire = a.1; ported = b.0; rises = c.0 }

pub none_fault : (w : ℕ) (file : List ℕ) (i : ℕ) → Sound w file i → file_fault w file i ≡ 0
unfolding file_fault
none_fault w file i ok =
    let f = ok.entire in
    rw (lt-ltb i most_routes ok.few, le-leb (len_at file (place_of file i)) w f.short, le-leb (place_of file i + size_for (len_at file (place_of file i))) (length file) f.uncut, ok.ported, ok.rises)

-- the faults of a route of a file are 3 to 8, and not 5
pub record RouteFault (m : ℕ) : Type 0 where
  pub low : wrong_size ≤ m
  pub high : m ≤ too_many_routes
  pub other : m ≡ spare_bits → ⊥

abbrev five_checks : Bool → Bool → Bool → Bool → Bool → ℕ
five_checks a b c d e =
    unless a too_many_routes (unless b long_prefix (unless c wrong_size (unless d wrong_port (unless e not_above 0))))

pub fault_range : (w : ℕ) (file : List ℕ) (i : ℕ) → (file_fault w file i ≡ 0) ⊎ RouteFault (file_fault w file i)
unfolding file_fault
fault_range w file i =
    go (ltb i most_routes) (leb (len_at file (place_of file i)) w) (leb (place_of file i + size_for (len_at file (place_of file i))) (length file))
    (is_port (file_route w file i).port) (above (file_route w file) i)
  where
    named : (m : ℕ) → wrong_size ≤ m → m ≤ too_many_routes → (m ≡ spare_bits → ⊥) → (m ≡ 0) ⊎ RouteFault m
    named m low high other = inr (record { low = low; high = high; other = other })

    go : (a b c d e : Bool) → (five_checks a b c d e ≡ 0) ⊎ RouteFault (five_checks a b c d e)
    go true true true true true = inl refl
    go true true true true false = named not_above (omega arith) (omega arith) (λ x. omega arith)
    go true true true false e = named wrong_port (omega arith) (omega arith) (λ x. omega arith)
    go true true false d e = named wrong_size (omega arith) (omega arith) (λ x. omega arith)
    go true false c d e = named long_prefix (omega arith) (omega arith) (λ x. omega arith)
    go false b c d e = named too_many_routes (omega arith) (omega arith) (λ x. omega arith)

-- no route without a fault is longer than the longest prefix makes it
pub place_le : (w : ℕ) (file : List ℕ) (i : ℕ) → NoneBelow (file_fault w file) i → place_of file i ≤ head_size + i * size_for w
unfolding place_of
place_le w file zero none = omega arith
place_le w file (suc i) none =
    let ok = (fault_none w file i (none i (omega arith))).entire in
    let s : size_for (len_at file (place_of file i)) ≤ size_for w = omega (arith, ok.short) in
    omega (arith, place_le w file i (λ j h. none j (omega arith)), s, suc-mul i (size_for w))
