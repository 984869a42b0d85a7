use lib.ListN.{length}
use mathlib.Core.Path.{◌≡◌, refl, ap, ◌∙◌}
use Prim.Native.Nat.{ℕ, ◌/◌}
use native.Mathlib.Omega.{arith}
use Rattle.std.proofs.lemmas.Result.{err_from_is_err_and}
use Rattle.refusals.proofs.Numbers.{number_ne0}
use Rattle.routes.specs.Routes.{route_at}
use Rattle.routes.specs.Scan.{last_match}
use Rattle.routes.proofs.Scan.{last_match_more, list_scan_refused, list_scan_accepted}
use Rattle.routes.proofs.scan_list.Goals as goal

pub returns-in_err-check_list : goal.returns-in_err-check_list
returns-in_err-check_list c = let a = c.args in
    let p = err_from_is_err_and c.from_residual.result c.from_residual.ensures.1 in
    rw (p.1, p.2) (list_scan_refused 32 a.list.now a.address _ c.in_err-check_list.ensures (number_ne0 _))

pub loop-i-init : goal.loop-i-init
unfolding last_match
loop-i-init c = refl

pub loop-i-preserved : goal.loop-i-preserved
loop-i-preserved c = let a = c.args in
    last_match_more 32 (route_at a.list.now) _ a.address _ _ _ c.route_at.ensures c.loop-i.invariant c.port_of_match-port.ensures

pub returns : goal.returns
returns c = let a = c.args in
    let all : c.loop-i.i ≡ length a.list.now / 3 = omega arith in
    list_scan_accepted 32 a.list.now a.address _ c.in_ok-check_list.ensures refl (λ i. omega (arith, c.shared_slice_known-1.given i)) _
    (c.loop-i.invariant ∙ ap (λ (n : ℕ). last_match 32 (route_at a.list.now) n a.address) all)
