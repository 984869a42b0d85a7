use mathlib.Core.Path.{◌≡◌, ap, ◌∙◌}
use Prim.Native.Nat.{ℕ, ◌+◌, ◌-◌, ◌*◌, ◌%◌, ◌^◌, ◌≤◌}
use native.Mathlib.Omega.{arith}
use native.Mathlib.Nat.{mul-le-mul, one-mul}
use lib.Pow.{pow_mono, shl_exact}
use Rattle.prefix.specs.Prefixes.{prefix}
use Rattle.prefix.specs.declared.Prefix.{Prefix}
use Rattle.routes.specs.Routes.{route_at}
use Rattle.image_stretch.specs.Stretches.{slot_stretch_at}
use Rattle.image_search.proofs.Slots.find_slot.Goals as goal

-- the shift of the code
span_is : (k : ℕ) → k ≤ 32 → 1 * 2 ^ k % 2 ^ 64 ≡ 2 ^ k
span_is k h = shl_exact {a = 1} 1 k 64 (omega arith) (omega arith) ∙ one-mul (2 ^ k)

pub overflow_mul-value : goal.overflow_mul-value
overflow_mul-value c = let k = c.bits_past.result in
    let j : c.args.j ≤ 2 ^ 32 - 1 = omega arith in
    let m = mul-le-mul j (pow_mono {i = k} {j = 32} c.bits_past.ensures.1) in
    rw (span_is k c.bits_past.ensures.1) (omega (arith, m))

pub overflow_add-value : goal.overflow_add-value
overflow_add-value c = let k = c.bits_past.result in
    let j : c.args.j ≤ 2 ^ 32 - 1 = omega arith in
    let m = mul-le-mul j (pow_mono {i = k} {j = 32} c.bits_past.ensures.1) in
    rw (span_is k c.bits_past.ensures.1) (omega (arith, m))

pub returns : goal.returns
returns c = let a = c.args in
    let b = c.bits_past in
    c.slot_stretch.ensures
    ∙ ap (λ (p : Prefix). slot_stretch_at 32 (route_at a.self.list.now) a.self.x a.search.short a.search.route p.value p.len)
    (c.new.ensures
    ∙ ap (λ (n : ℕ). prefix ((a.self.address + a.j * n) % 2 ^ 32) a.self.depth) (span_is b.result b.ensures.1 ∙ ap (λ (k : ℕ). 2 ^ k) b.ensures.0))
