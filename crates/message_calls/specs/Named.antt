-- Defines what the prefixes of a message, withdrawn and announced, come to: the calls that it stands for, and the final set and its
-- size. RULES, "UPDATE messages". Assumes nothing.
use Rattle.std.specs.Prelude.{◌≡◌, Bool, not, cond, List, [], ◌++◌, map, ℕ, ◌+◌, ◌-◌, ltb, length}
use Rattle.bits.specs.Bits.{Bits, prefix_bits, same}
use Rattle.bits.specs.Prefix.{same_prefix}
use Rattle.trie.specs.Routes.{Routes}
use Rattle.prefix.specs.declared.Prefix.{Prefix}
use Rattle.routes.specs.Routes.{route}
use Rattle.routes.specs.declared.Route.{Route}
use Rattle.table_rules.specs.Rows.{Mem}
use Rattle.table_rules.specs.Announce.{is_held}
use Rattle.table_update.specs.Calls.{prefix_only}
use Rattle.table_update.specs.History.{Call, announcing, withdrawing}
use Rattle.message_calls.specs.Once.{those, among, once_after, Differ}

-- `gone` are the withdrawn prefixes of a message and `come` the announced ones, each in its order

-- two prefixes are one
abbrev pub is_one : Prefix → Prefix → Bool
is_one p q = same_prefix p.value p.len q.value q.len

abbrev pub is_named : Prefix → List Prefix → Bool
is_named p ps = among is_one p ps

-- "A prefix in both parts counts as announced only": the withdrawn ones that remain, in message order
abbrev pub remaining : List Prefix → List Prefix → List Prefix
remaining gone come = those (λ p. not (is_named p come)) gone

-- "the announced prefixes, all of which get one port"
abbrev pub route_to : ℕ → Prefix → Route
route_to port p = route p.value p.len port

-- "an accepted one is its remaining withdrawals, then its announcements, in message order"
abbrev pub withdrawals : List Prefix → List Call
withdrawals ps = map (λ p. withdrawing p.value p.len) ps

abbrev pub announcements : ℕ → List Prefix → List Call
announcements port ps = map (λ p. announcing (route_to port p)) ps

abbrev pub calls_for : ℕ → List Prefix → List Prefix → List Call
calls_for port gone come = withdrawals (remaining gone come) ++ announcements port come

-- each prefix once
abbrev pub once : List Prefix → List Prefix
once ps = once_after is_one [] ps

-- the table holds the prefix
abbrev pub holds : ℕ → Mem → ℕ → Prefix → Bool
holds w M n p = is_held w M n (prefix_only p.value p.len)

-- how many routes the final set has: of those held all that the message does not name, and the announced ones
unfoldable pub final_count : ℕ → Mem → ℕ → List Prefix → List Prefix → ℕ
final_count w M n gone come = n - length (those (holds w M n) (once (come ++ gone))) + length (once come)

-- the final set itself, by the bits of its prefixes

abbrev pub bits_of : ℕ → Prefix → Bits
bits_of w p = prefix_bits w p.value p.len

abbrev pub has_bits : ℕ → Bits → List Prefix → Bool
has_bits w q ps = among same q (map (bits_of w) ps)

-- announced ones have the port, the other withdrawn ones none, and all others the one that they had
abbrev pub final_set : ℕ → ℕ → List Prefix → List Prefix → Routes → Routes
final_set w port gone come S q = cond (has_bits w q come) port (cond (has_bits w q gone) 0 (S q))

-- a set of m routes: a list of m different prefixes has just those with a port
pub record Size (S : Routes) (m : ℕ) : Type 0 where
  pub list : List Bits
  pub differ : Differ same list
  pub just : (q : Bits) → among same q list ≡ ltb 0 (S q)
  pub size : length list ≡ m
