-- Routes that agree have one listing, and ports that agree too. Assumes nothing.
use mathlib.Core.Path.{◌≡◌, sym, ap, ◌∙◌}
use mathlib.Core.List.{List, [], ◌∷◌}
use Prim.Native.Nat.{ℕ, ◌+◌, ◌*◌, ◌^◌, ◌<◌}
use native.Mathlib.Omega.{arith}
use lib.ListN.{length}
use Rattle.trie.specs.Scan.{plain_scan}
use Rattle.refusals.specs.Refusals.{accepted}
use Rattle.routes.specs.Routes.{route_size, route_at, route_count, ValidList}
use Rattle.routes.specs.Check.{list_check}
use Rattle.routes.specs.Scan.{route_matches}
use Rattle.routes.specs.declared.Route.{Route}
use Rattle.routes.proofs.Check.{valid_accepted}
use Rattle.lists.proofs.Numbered.{list_of_same}
use Rattle.runs_rules.specs.Runs.{Run, Lists, runs}
use Rattle.runs_rules.specs.Listing.{listed}

-- routes that agree below n
module _ (w : ℕ) (R Q : ℕ → Route) (n : ℕ) (e : (j : ℕ) → j < n → R j ≡ Q j) where
  pub listed_same : listed w R n ≡ listed w Q n
  listed_same =
      ap (λ (rs : List Route). runs (λ (a : ℕ). plain_scan (route_matches w a) (λ r. r.len) (λ r. r.port) rs) (2 ^ w))
      (list_of_same R Q n 0 (λ j u v. e j (omega arith)))

  pub valid_same : ValidList w R n → ValidList w Q n
  valid_same ok = record {
    few = ok.few;
    each = λ i h. rw (← e i h) (ok.each i h);
    rises = λ i h. rw (← e i (omega arith), ← e (i + 1) h) (ok.rises i h);
  }

-- words that hold n valid routes and no more: a list that the check accepts, with the listing of these routes
module _ (w : ℕ) (R : ℕ → Route) (n : ℕ) (words : List ℕ) (size : length words ≡ n * route_size)
    (same : (i : ℕ) → i < n → R i ≡ route_at words i) where
  count_is : route_count words ≡ n
  count_is = omega (arith, size)

  pub words_accepted : ValidList w R n → list_check w words ≡ accepted 0
  words_accepted ok =
      valid_accepted w words (omega (arith, size)) (rw count_is (valid_same w R (route_at words) n same ok))

  pub words_listed : listed w (route_at words) (route_count words) ≡ listed w R n
  words_listed = ap (λ (k : ℕ). listed w (route_at words) k) count_is ∙ sym (listed_same w R (route_at words) n same)

-- ports that agree below n
pub lists_same : (f g : ℕ → ℕ) (n a : ℕ) (rs : List Run) → ((x : ℕ) → x < n → f x ≡ g x) → Lists f n a rs → Lists g n a rs
lists_same f g n a [] e ls = ls
lists_same f g n a (r ∷ rs) e ls = (
  record {
    starts = ls.0.starts;
    some = ls.0.some;
    within = ls.0.within;
    one_port = λ x u v. sym_then x (omega (arith, v, ls.0.within)) (ls.0.one_port x u v);
  },
  ls.1,
  lists_same f g n (r.last + 1) rs e ls.2,
)
  where
    sym_then : (x : ℕ) → x < n → f x ≡ r.port → g x ≡ r.port
    sym_then x h p = rw (← e x h) p
