use Rattle.std.proofs.Common.{◌≡◌, ℕ, ◌-◌, ◌*◌, ◌^◌, ◌<◌, ◌≤◌, ap, mul-le-mul, arith}
use Rattle.image_lookup.specs.Needs.{most_slots_before}
use Rattle.image_lookup.proofs.slots_before.Goals as goal

-- 16 slots a node, and the nodes that memory holds
few : (m n a : ℕ) → m ≡ n → n ≤ 16 → a < 2 ^ 60 → m * (a - 1) ≤ most_slots_before
few m n a e h k =
    let l : m ≤ 16 = omega arith in
    let b : a - 1 ≤ 2 ^ 60 - 2 = omega arith in
    omega (arith, mul-le-mul l b)

pub overflow_mul-result : goal.overflow_mul-result
overflow_mul-result c = record { fits = omega (arith, few c.wide.result c.args.slots c.args.at.0 c.wide.ensures.0 c.requires.0 c.requires.2) }

pub returns : goal.returns
returns c = (
  ap (λ (m : ℕ). m * (c.args.at.0 - 1)) c.wide.ensures.0,
  few c.wide.result c.args.slots c.args.at.0 c.wide.ensures.0 c.requires.0 c.requires.2,
)
