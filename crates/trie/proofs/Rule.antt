-- The rule has exactly one trie for each set that is announced, whatever the order of its routes. Assumes nothing.
use mathlib.Core.Path.{◌≡◌, refl, sym, ap, ◌∙◌, fun_ext}
use mathlib.Core.Bool.{Bool}
use mathlib.Core.List.{List, [], ◌∷◌, Memᴰ}
use Prim.Native.Nat.{ℕ}
use native.Mathlib.Omega.{arith}
use Rattle.bits.specs.Bits.{Bits}
use Rattle.trie.specs.Routes.{Route, Routes, no_routes, upd, side, held_from, held, Ported}
use Rattle.trie.specs.Trie.{Trie, leaf, node, IsTrie}
use Rattle.trie.specs.Update.{insert, insert_all}
use Rattle.trie.specs.Theorems.{TrieUnique, TrieExists, OrderDoesNotMatter}
use Rattle.trie.proofs.Order.{outranks_same}
use Rattle.trie.proofs.Insert.{carry, insert_is}
use Rattle.trie.proofs.Listed.{held_same}

node_eq : (s t : Bits) (p o : ℕ) (c d : Bool → Trie) → s ≡ t → p ≡ o → c ≡ d → node s p c ≡ node t o d
node_eq s t p o c d es ep ec = λ i. node (es i) (ep i) (ec i)

pub trie_unique : TrieUnique
trie_unique leaf leaf S h k = refl
trie_unique leaf (node s p c) S h k = absurd (omega (arith, h s, k.some, k.own))
trie_unique (node s p c) leaf S h k = absurd (omega (arith, k s, h.some, h.own))
trie_unique (node s p c) (node t o d) S h k =
    let es : s ≡ t = outranks_same s t (k.top s (omega (arith, h.some, h.own))) (h.top t (omega (arith, k.some, k.own))) in
    node_eq s t p o c d es (sym h.own ∙ ap S es ∙ k.own)
    (fun_ext (λ b. trie_unique (c b) (d b) (side b (upd S s 0)) (h.rest b) (rw es (k.rest b))))

-- announced one after the other
insert_all_is : (rs : List Route) (t : Trie) (S : Routes) → Ported rs → IsTrie t S → IsTrie (insert_all t rs) (held_from S rs)
unfolding insert_all held_from
insert_all_is [] t S h k = k
insert_all_is (r ∷ rs) t S h k =
    insert_all_is rs (insert r.prefix r.port t) (upd S r.prefix r.port) (λ x m. h x (Memᴰ.tail m))
    (insert_is t S r.prefix r.port (h r (Memᴰ.head refl)) k)

pub trie_exists : TrieExists
trie_exists rs h = insert_all_is rs leaf no_routes h (λ q. refl)

pub order_does_not_matter : OrderDoesNotMatter
order_does_not_matter rs qs dr dq h there back =
    trie_unique (insert_all leaf rs) (insert_all leaf qs) (held rs) (trie_exists rs h)
    (carry (insert_all leaf qs) (sym (held_same rs qs dr dq there back)) (trie_exists qs (λ x m. h x (back x m))))
