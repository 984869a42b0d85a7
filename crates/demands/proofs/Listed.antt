-- The checks of a list and of a file, whatever a call makes of their answer. Assumes nothing.
use mathlib.Core.Bool.{cond}
use mathlib.Core.List.{List}
use Prim.Native.Nat.{ℕ, zero, suc, ◌+◌, ◌-◌, ◌%◌, ◌<◌}
use native.Mathlib.Omega.{arith}
use lib.Dec.{eqb, leb, ltb}
use lib.ListN.{length, get_or}
use borrow.Author.Tests.{ltb-true, ltb-false}
use Rattle.bits.specs.Prefix.{clear}
use Rattle.refusals.specs.Refusals.{short_file, wrong_version, wrong_size, long_prefix, spare_bits, wrong_port, not_above, too_many_routes, refused, accepted}
use Rattle.routes.specs.Bounds.{most_routes}
use Rattle.routes.specs.Routes.{route_at, route_count}
use Rattle.routes.specs.Check.{is_port, above, fault_at, first_fault, routes_check, list_check}
use Rattle.routes.specs.declared.Route.{Route}
use Rattle.refusals.specs.declared.Answer.{Answer}
use Rattle.octets.specs.Octets.{len_at}
use Rattle.file_rules.specs.File.{version, head_size, stated_size, size_for, read_at, place_of, file_route}
use Rattle.file_rules.specs.Check.{head_fault, file_fault, check_from, file_check}
use Rattle.demands.specs.Lamp.{Verdict, shows}
use Rattle.demands.specs.Checks.{NoPort, NotAbove, each_route, list_checks, each_in_file, file_checks}
use Rattle.demands.proofs.Tells.{tells_itself, tells_le, tells_lt, tells_eq, tells_port, tells_above}
use Rattle.demands.proofs.Shown.{View, On, on_test, on_unless, on_whether}

-- made : what a call makes of the answer of its checks; a refusal it hands on
module _ (v : View) (made : Answer → v.Seen) (hands_on : (m p : ℕ) → 0 < m → On v (shows m p) (made (refused m p))) where
  -- one route of a list, and then the rest
  module _ (w : ℕ) (R : ℕ → Route) (rest : Verdict) where
    pub on_each : (k i : ℕ) → On v rest (made (accepted 0)) → On v (each_route w R k i rest) (made (first_fault (fault_at w R) k i))
    unfolding first_fault fault_at
    on_each zero i next = next
    on_each (suc k) i next =
        let answer : ℕ → v.Seen = λ f. made (cond (eqb f 0) (first_fault (fault_at w R) k (i + 1)) (refused f i)) in
        on_unless v (leb (R i).len w) (w < (R i).len) (tells_le (R i).len w) long_prefix i _ answer _
        (on_unless v (clear w (R i).value (R i).len) _ (tells_itself _) spare_bits i _ answer _
        (on_unless v (is_port (R i).port) (NoPort (R i).port) (tells_port (R i).port) wrong_port i _ answer _
        (on_unless v (above R i) (NotAbove R i) (tells_above R i) not_above i _ answer 0 (on_each k (i + 1) next) (hands_on not_above i (omega arith)))
        (hands_on wrong_port i (omega arith)))
        (hands_on spare_bits i (omega arith)))
        (hands_on long_prefix i (omega arith))

  pub on_list : (w : ℕ) (words : List ℕ) (rest : Verdict) → On v rest (made (accepted 0)) → On v (list_checks w words rest) (made (list_check w words))
  unfolding list_check routes_check
  on_list w words rest next =
      on_test v (eqb (length words % 3) 0) _ (tells_eq (length words % 3) 0) wrong_size 0 _
      (λ b. made (cond b (cond (leb (route_count words) most_routes) (first_fault (fault_at w (route_at words)) (route_count words) 0) (refused too_many_routes 0)) (refused wrong_size 0)))
      (on_test v (leb (route_count words) most_routes) _ (tells_le (route_count words) most_routes) too_many_routes 0 _
      (λ b. made (cond b (first_fault (fault_at w (route_at words)) (route_count words) 0) (refused too_many_routes 0)))
      (on_each w (route_at words) rest (route_count words) 0 next) (hands_on too_many_routes 0 (omega arith)))
      (hands_on wrong_size 0 (omega arith))

  -- one route of a file, and then the rest
  module _ (w : ℕ) (file : List ℕ) (rest : ℕ → Verdict) (next : (i : ℕ) → On v (rest i) (made (accepted i))) where
    pub on_each_in_file : (k i : ℕ) → On v (each_in_file w file k i rest) (made (check_from w file k i))
    unfolding check_from file_fault
    on_each_in_file zero i = next i
    on_each_in_file (suc k) i =
        let at : ℕ = place_of file i in
        let answer : ℕ → v.Seen = λ f. made (cond (eqb f 0) (check_from w file k (i + 1)) (refused f at)) in
        on_whether v (ltb at (length file)) (at < length file) _ (rest i)
        (λ b. made (cond b (cond (eqb (file_fault w file i) 0) (check_from w file k (i + 1)) (refused (file_fault w file i) at)) (accepted i)))
        (ltb-true at (length file)) (λ e h. omega (arith, ltb-false at (length file) e))
        (on_unless v (ltb i most_routes) _ (tells_lt i most_routes) too_many_routes at _ answer _
        (on_unless v (leb (len_at file at) w) _ (tells_le (len_at file at) w) long_prefix at _ answer _
        (on_unless v (leb (at + size_for (len_at file at)) (length file)) _ (tells_le _ _) wrong_size at _ answer _
        (on_unless v (is_port (read_at w file at).port) _ (tells_port _) wrong_port at _ answer _
        (on_unless v (above (file_route w file) i) _ (tells_above (file_route w file) i) not_above at _ answer 0 (on_each_in_file k (i + 1))
        (hands_on not_above at (omega arith)))
        (hands_on wrong_port at (omega arith)))
        (hands_on wrong_size at (omega arith)))
        (hands_on long_prefix at (omega arith)))
        (hands_on too_many_routes at (omega arith)))
        (next i)

    pub on_file : On v (file_checks w file rest) (made (file_check w file))
    unfolding file_check head_fault
    on_file =
        let answer : ℕ → v.Seen = λ f. made (cond (eqb f 0) (check_from w file (length file - head_size) 0) (refused f 0)) in
        on_unless v (leb head_size (length file)) _ (tells_le head_size (length file)) short_file 0 _ answer _
        (on_unless v (eqb (get_or file 0 0) version) _ (tells_eq (get_or file 0 0) version) wrong_version 0 _ answer _
        (on_unless v (eqb (stated_size file) (length file - head_size)) _ (tells_eq (stated_size file) (length file - head_size)) wrong_size 0 _ answer 0
        (on_each_in_file (length file - head_size) 0) (hands_on wrong_size 0 (omega arith)))
        (hands_on wrong_version 0 (omega arith)))
        (hands_on short_file 0 (omega arith))
