-- Lookup on a trie that obeys the rule is the plain scan, and reads at most one row more than the address has bits. Assumes nothing.
use mathlib.Core.Path.{◌≡◌, refl, sym, ap, ◌∙◌}
use mathlib.Core.Logic.{⊎_elim}
use mathlib.Core.Bool.{Bool, true, false, cond, ◌&&◌, true≢false}
use mathlib.Core.List.{[], ◌∷◌}
use Prim.Native.Nat.{ℕ, suc, ◌+◌, ◌<◌, ◌≤◌}
use native.Mathlib.Omega.{arith}
use lib.ListN.{length}
use Rattle.bits.specs.Bits.{Bits, begins}
use Rattle.trie.specs.Routes.{Routes, upd, side}
use Rattle.trie.specs.Scan.{or_else, scan}
use Rattle.trie.specs.Trie.{Trie, leaf, node, IsTrie, Top, outranks, ends, port, reads}
use Rattle.trie.specs.Theorems.{PortIsScan, ReadsLe}
use Rattle.trie.proofs.Routes.{none_or_some}
use Rattle.trie.proofs.Order.{outranks_longer}
use Rattle.trie.proofs.Scan.{or_pos, or_assoc, or_zero, scan_none, scan_longest, scan_other}

-- what would hold the place rather than the holder is not in S
pub top_none : (S : Routes) (s : Bits) → Top S s → (q : Bits) → outranks q s ≡ true → S q ≡ 0
top_none S s h q e = ⊎_elim (λ z. z) (λ k. absurd (true≢false (sym e ∙ h q k))) (none_or_some (S q))

module _ (S : Routes) (p best : ℕ) where
  -- an ordinary node does not end the search: a longer route may lie below it
  ordinary : (b : Bool) (t : Trie) (a : Bits) → 0 < p → S [] ≡ p
      → port t a p ≡ or_else (scan (side b S) a) p → port t a p ≡ or_else (scan S (b ∷ a)) best
  ordinary b t a pos own ih =
      ih ∙ sym (or_assoc (scan (side b S) a) (S []) best ∙ ap (or_else (scan (side b S) a)) (rw own (or_pos p best pos)))

  -- a priority node ends it if it matches, and else counts for nothing
  priority : (x b : Bool) (s : Bits) (t : Trie) (a : Bits) (m : Bool) → begins (x ∷ s) (b ∷ a) ≡ m
      → 0 < p → S (x ∷ s) ≡ p → Top S (x ∷ s)
      → port t a best ≡ or_else (scan (side b (upd S (x ∷ s) 0)) a) best
      → cond (m && true) p (port t a (cond m p best)) ≡ or_else (scan S (b ∷ a)) best
  priority x b s t a true e pos own top ih =
      let found : scan S (b ∷ a) ≡ S (x ∷ s) =
      scan_longest S (x ∷ s) (b ∷ a) (rw own pos) e (λ q m l. top_none S (x ∷ s) top q (outranks_longer x s q l)) in
      sym (ap (λ z. or_else z best) (found ∙ own) ∙ or_pos p best pos)
  priority x b s t a false e pos own top ih =
      let rest : ℕ = scan (side b (upd S (x ∷ s) 0)) a in
      ih
      ∙ ap (λ z. or_else z best)
      (sym (or_zero rest) ∙ ap (or_else rest) (sym (top_none S (x ∷ s) top [] refl)) ∙ scan_other S (x ∷ s) (b ∷ a) 0 e)

-- the lookup, with the best so far
pub port_scan : (t : Trie) (S : Routes) (a : Bits) (best : ℕ) → IsTrie t S → port t a best ≡ or_else (scan S a) best
port_scan leaf S a best h = rw (scan_none S a (λ q m. h q))
port_scan (node [] p c) S [] best h = rw h.own (sym (or_pos p best h.some))
port_scan (node [] p c) S (b ∷ a) best h =
    ordinary S p best b (c b) a h.some h.own (port_scan (c b) (side b S) a p (h.rest b))
port_scan (node (x ∷ s) p c) S [] best h = rw (top_none S (x ∷ s) h.top [] refl)
port_scan (node (x ∷ s) p c) S (b ∷ a) best h =
    priority S p best x b s (c b) a (begins (x ∷ s) (b ∷ a)) refl h.some h.own h.top
    (port_scan (c b) (side b (upd S (x ∷ s) 0)) a best (h.rest b))

pub port_is_scan : PortIsScan
port_is_scan t S a h = port_scan t S a 0 h ∙ or_zero (scan S a)

pub reads_le : ReadsLe
reads_le leaf a = omega arith
reads_le (node s p c) [] = omega arith
reads_le (node s p c) (b ∷ a) = go (ends s (b ∷ a)) (reads_le (c b) a)
  where
    go : (e : Bool) → reads (c b) a ≤ length a + 1 → cond e 1 (1 + reads (c b) a) ≤ suc (length a) + 1
    go true h = omega arith
    go false h = omega arith
