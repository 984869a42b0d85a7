-- The rows of the places, with the set of routes and the rest, leave no choice of memory. Assumes nothing.
use mathlib.Core.Path.{◌≡◌, refl, sym, ap, ◌∙◌, subst}
use mathlib.Core.Logic.{◌⊎◌, inl, inr, ⊎_elim}
use mathlib.Core.Bool.{Bool, true, false, cond}
use mathlib.Core.List.{[], ◌∷◌, ◌++◌}
use Prim.Native.Nat.{ℕ, ◌+◌, ◌-◌, ◌<◌, ◌≤◌}
use native.Mathlib.Omega.{arith}
use lib.Dec.{eqb, ltb}
use borrow.Author.Tests.{eqb-true, eqb-false, ltb-false}
use Rattle.lists.proofs.Tests.{way}
use Rattle.bits.specs.Bits.{Bits, prefix_bits}
use Rattle.bits.proofs.Bits.{valid_prefix_unique}
use Rattle.trie.specs.Routes.{upd}
use Rattle.trie.specs.Trie.{Trie, leaf, node}
use Rattle.trie.proofs.Rule.{trie_unique}
use Rattle.table_rules.specs.Rows.{Mem, child, row_of}
use Rattle.table_rules.specs.Holds.{Names, Holds, times}
use Rattle.table_rules.proofs.Move.{through}
use Rattle.table_rules.proofs.Table.{announced_is, withdrawn_is}
use Rattle.table_places.specs.Places.{HasPlace, moved_to}
use Rattle.table_places.specs.Theorems.{RowsUnique, AnnouncedWholeOne, AnnouncedWholeIs, WithdrawnWholeOne, WithdrawnWholeIs}
use Rattle.table_places.proofs.Grow.{announced_places}
use Rattle.table_places.proofs.Shrink.{withdrawn_places}

-- a place is there or is not
has_place : (t : Trie) (at : Bits) → HasPlace t at ⊎ (HasPlace t at → ⊥)
has_place leaf at = inr (λ e. e)
has_place (node s p c) [] = inl tt
has_place (node s p c) (b ∷ at) = has_place (c b) at

module _ (w : ℕ) (M M' : Mem) where
  -- rows of one place hold the same, and so do their children's numbers
  same_child : (t : Trie) (j j' : ℕ) → Names j t → Names j' t → (HasPlace t [] → j ≡ j') → j ≡ j'
  same_child leaf j j' none none' same = none ∙ sym none'
  same_child (node s p c) j j' some some' same = same tt

  same_row : (path : Bits) (r r' : ℕ) (s : Bits) (p : ℕ) (c : Bool → Trie) → Holds w M path r (node s p c) → Holds w M' path r' (node s p c)
      → ((b : Bool) → HasPlace (c b) [] → child (M r) b ≡ child (M' r') b) → M r ≡ M' r'
  same_row path r r' s p c h h' kids =
      let v : ((M r).value ≡ (M' r').value) × ((M r).len ≡ (M' r').len) =
      valid_prefix_unique w (M r).value (M r).len (M' r').value (M' r').len h.valid.prefix h'.valid.prefix (h.bits ∙ sym h'.bits) in
      let port : (M r).port ≡ (M' r').port = h.port ∙ sym h'.port in
      let left : (M r).left ≡ (M' r').left =
      same_child (c false) (M r).left (M' r').left (h.below false).0 (h'.below false).0 (kids false) in
      let right : (M r).right ≡ (M' r').right =
      same_child (c true) (M r).right (M' r').right (h.below true).0 (h'.below true).0 (kids true) in
      λ j. record { value = v.0 j; len = v.1 j; port = port j; left = left j; right = right j }

  same_rows : (t : Trie) (path : Bits) (r r' : ℕ) → Holds w M path r t → Holds w M' path r' t
      → ((at : Bits) → HasPlace t at → row_of M r at ≡ row_of M' r' at) → (i : ℕ) → 0 < times M r t i → M i ≡ M' i
  same_rows leaf path r r' h h' same i k = absurd (omega arith)
  same_rows (node s p c) path r r' h h' same i k =
      ⊎_elim
      (λ (e : i ≡ r). ap M e ∙ same_row path r r' s p c h h' (λ b place. same (b ∷ []) place) ∙ ap M' (sym (same [] tt)) ∙ ap M' (sym e))
      (λ (d : (b : Bool) × (0 < times M (child (M r) b) (c b) i)).
      same_rows (c d.0) (path ++ (d.0 ∷ [])) (child (M r) d.0) (child (M' r') d.0) (h.below d.0).1 (h'.below d.0).1
      (λ at place. same (d.0 ∷ at) place) i d.1)
      (through M r s p c i k)

pub rows_unique : RowsUnique
rows_unique w M M' n S x y same rest =
    let t_is : y.trie ≡ x.trie = trie_unique y.trie x.trie S y.rule x.rule in
    let h' : Holds w M' [] 0 x.trie = subst (Holds w M' [] 0) t_is y.holds in
    let each : ((i : ℕ) → M i ≡ M' i) =
    (λ i.
    ⊎_elim
    (λ (e : ltb i n ≡ true).
    let one : times M 0 x.trie i ≡ 1 = x.once i ∙ ap {B = ℕ} (λ (b : Bool). cond b 1 0) e in
    same_rows w M M' x.trie [] 0 0 x.holds h' same i (omega arith))
    (λ (e : ltb i n ≡ false). rest i (ltb-false i n e))
    (way (ltb i n))) in
    λ j i. each i j

pub announced_whole_one : AnnouncedWholeOne
announced_whole_one w M M' M'' n S q old a b =
    let y : Bits = prefix_bits w q.value q.len in
    let t_is : a.rows.placed.trie ≡ b.rows.placed.trie =
    trie_unique a.rows.placed.trie b.rows.placed.trie (upd S y q.port) a.rows.placed.rule b.rows.placed.rule in
    rows_unique w M' M'' (cond (eqb (S y) 0) (n + 1) n) (upd S y q.port) a.rows.placed b.rows.placed
    (λ at place.
    ⊎_elim
    (λ (e : HasPlace old.trie at). (a.places.kept at e).1 ∙ sym (b.places.kept at e).1)
    (λ (e : HasPlace old.trie at → ⊥). a.places.new at place e ∙ sym (b.places.new at (subst (λ (t : Trie). HasPlace t at) t_is place) e))
    (has_place old.trie at))
    (λ i h. a.rows.rest i (past (eqb (S y) 0) i h) (far (eqb (S y) 0) refl i h) ∙ sym (b.rows.rest i (past (eqb (S y) 0) i h) (far (eqb (S y) 0) refl i h)))
  where
    past : (f : Bool) (i : ℕ) → cond f (n + 1) n ≤ i → n ≤ i
    past true i h = omega arith
    past false i h = h

    far : (f : Bool) → eqb (S (prefix_bits w q.value q.len)) 0 ≡ f → (i : ℕ) → cond f (n + 1) n ≤ i → S (prefix_bits w q.value q.len) ≡ 0 → i ≡ n → ⊥
    far true e i h z k = omega arith
    far false e i h z k = eqb-false (S (prefix_bits w q.value q.len)) 0 e z

pub withdrawn_whole_one : WithdrawnWholeOne
withdrawn_whole_one w M M' M'' n S q old some a b =
    let y : Bits = prefix_bits w q.value q.len in
    let t_is : a.rows.placed.trie ≡ b.rows.placed.trie =
    trie_unique a.rows.placed.trie b.rows.placed.trie (upd S y 0) a.rows.placed.rule b.rows.placed.rule in
    let gone : a.places.gone ≡ b.places.gone =
    b.places.only a.places.gone a.places.was (λ h. a.places.is_not (subst (λ (t : Trie). HasPlace t a.places.gone) (sym t_is) h)) in
    rows_unique w M' M'' (n - 1) (upd S y 0) a.rows.placed b.rows.placed
    (λ at place.
    (a.places.kept at place).1 ∙ ap (λ (g : Bits). moved_to (n - 1) (row_of M 0 g) (row_of M 0 at)) gone
    ∙ sym (b.places.kept at (subst (λ (t : Trie). HasPlace t at) t_is place)).1)
    (λ i h.
    ⊎_elim
    (λ (e : eqb i (n - 1) ≡ true). let z : i ≡ n - 1 = eqb-true i (n - 1) e in ap M' z ∙ a.rows.last ∙ sym b.rows.last ∙ ap M'' (sym z))
    (λ (e : eqb i (n - 1) ≡ false).
    let ne : (i ≡ n - 1 → ⊥) = eqb-false i (n - 1) e in
    let k : n ≤ i = omega arith in
    a.rows.rest i k ∙ sym (b.rows.rest i k))
    (way (eqb i (n - 1))))

pub announced_whole_is : AnnouncedWholeIs
announced_whole_is X L w st m n S q old ok lies fits =
    let rows = announced_is X L w st m n S q old ok lies fits in
    record { rows = rows; places = announced_places X L w st m n S q old ok lies fits rows.placed }

pub withdrawn_whole_is : WithdrawnWholeIs
withdrawn_whole_is X L w st m n S q old ok lies live =
    let rows = withdrawn_is X L w st m n S q old ok lies live in
    record { rows = rows; places = withdrawn_places X L w st m n S q old ok lies live rows.placed }
