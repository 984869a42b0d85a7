-- Defines what a message does to the rows of a table in good order, prefix by prefix, and how its prefixes are counted by means of a
-- second table that holds those already met. Assumes nothing.
use Rattle.std.specs.Prelude.{Bool, cond, List, [], ◌∷◌, ℕ, ◌+◌, ◌-◌}
use Rattle.prefix.specs.declared.Prefix.{Prefix}
use Rattle.table_rules.specs.Rows.{Layout}
use Rattle.table_rules.specs.Announce.{announced, is_held}
use Rattle.table_rules.specs.Withdraw.{withdrawn}
use Rattle.table_update.specs.Calls.{prefix_only}
use Rattle.table_update.specs.History.{Table}
use Rattle.message_calls.specs.Named.{route_to, holds}

-- the prefixes met so far, in a table of their own, and how many of them the other table holds
pub record Noted : Type 0 where
  pub met : Table
  pub hits : ℕ

-- one prefix after the other
unfoldable pub folded : {X : Type 0} → (X → Prefix → X) → X → List Prefix → X
folded step s [] = s
folded step s (p ∷ ps) = folded step (step s p) ps

module _ (L : Layout (List ℕ)) (w : ℕ) where
  abbrev pub table_holds : Table → Prefix → Bool
  table_holds t p = holds w (L.get t.words) t.count p

  -- a prefix that is not to be skipped goes, where it is held
  abbrev pub drop_one : (Prefix → Bool) → Table → Prefix → Table
  drop_one skip t p =
      cond (skip p) t
      (cond (table_holds t p)
      (record { words = withdrawn L w t.words t.count (prefix_only p.value p.len); count = t.count - 1 })
      t)

  abbrev pub dropped : (Prefix → Bool) → Table → List Prefix → Table
  dropped skip t ps = folded (drop_one skip) t ps

  -- a prefix gets the port, and a new one a row
  abbrev pub add_one : ℕ → Table → Prefix → Table
  add_one port t p = record {
    words = announced L w t.words t.count (route_to port p);
    count = cond (is_held w (L.get t.words) t.count (route_to port p)) t.count (t.count + 1);
  }

  abbrev pub added : ℕ → Table → List Prefix → Table
  added port t ps = folded (add_one port) t ps

  -- a prefix met for the first time
  abbrev pub note_one : (Prefix → Bool) → ℕ → Noted → Prefix → Noted
  note_one held port s p =
      cond (table_holds s.met p) s
      (record {
        met = record { words = announced L w s.met.words s.met.count (route_to port p); count = s.met.count + 1 };
        hits = s.hits + cond (held p) 1 0;
      })

  abbrev pub noted : (Prefix → Bool) → ℕ → Noted → List Prefix → Noted
  noted held port s ps = folded (note_one held port) s ps
