-- The final set has as many routes as are counted: those held that are not named, and the announced ones. Assumes nothing.
use mathlib.Core.Path.{◌≡◌, refl, sym, ap, ap₂, ◌∙◌}
use mathlib.Core.Bool.{Bool, true, false, cond, not, ◌&&◌, ◌||◌, and-true, and-false, false≢true}
use mathlib.Core.List.{List, [], ◌∷◌, ◌++◌, map, map-append}
use Prim.Native.Nat.{ℕ, ◌-◌, ◌≤◌, ◌<◌}
use native.Mathlib.Omega.{arith}
use lib.Dec.{eqb, ltb}
use lib.ListN.{length, length-append, length-map}
use borrow.Author.Tests.{eqb-true, eq-eqb, lt-ltb}
use Rattle.lists.proofs.Tests.{both, test_eq}
use Rattle.bits.specs.Bits.{Bits, same}
use Rattle.bits.specs.Prefix.{Valid}
use Rattle.bits.proofs.Bits.{same_refl, same_eq, valid_prefix_unique}
use Rattle.trie.specs.Routes.{Routes}
use Rattle.prefix.specs.declared.Prefix.{Prefix}
use Rattle.table_rules.specs.Rows.{Mem}
use Rattle.table_rules.specs.Holds.{GoodFor}
use Rattle.table_rules.proofs.Table.{held_is}
use Rattle.table_update.specs.Calls.{prefix_only}
use Rattle.message_rules.specs.Message.{AllValid}
use Rattle.message_calls.specs.Once.{ahead, those, among, once_after, Differ}
use Rattle.message_calls.specs.Named.{is_one, is_named, once, holds, final_count, bits_of, has_bits, final_set, Size}
use Rattle.message_calls.proofs.Once.{length_split, among_append, among_those, among_once, differ_those, differ_once, differ_append, no_more}
use Rattle.message_calls.proofs.Sized.{good_size}

map_ahead : {A B : Type 0} (f : A → B) (b : Bool) (x : A) (xs : List A) → map f (ahead b x xs) ≡ ahead b (f x) (map f xs)
map_ahead f true x xs = refl
map_ahead f false x xs = refl

pub valid_append : (w : ℕ) (ps qs : List Prefix) → AllValid w ps → AllValid w qs → AllValid w (ps ++ qs)
unfolding AllValid
valid_append w [] qs v u = u
valid_append w (p ∷ ps) qs v u = (v.0, valid_append w ps qs v.1 u)

valid_ahead : (w : ℕ) (b : Bool) (p : Prefix) (ps : List Prefix) → Valid w p.value p.len → AllValid w ps → AllValid w (ahead b p ps)
unfolding AllValid
valid_ahead w true p ps v u = (v, u)
valid_ahead w false p ps v u = u

pub valid_once : (w : ℕ) (past ps : List Prefix) → AllValid w ps → AllValid w (once_after is_one past ps)
unfolding AllValid once_after
valid_once w past [] v = tt
valid_once w past (p ∷ ps) v =
    valid_ahead w (not (among is_one p past)) p (once_after is_one (p ∷ past) ps) v.0 (valid_once w (p ∷ past) ps v.1)

pub valid_none : (w : ℕ) → AllValid w []
unfolding AllValid
valid_none w = tt

-- each once is all of them
once_all : (q : Bits) (qs : List Bits) → among same q (once_after same [] qs) ≡ among same q qs
unfolding among
once_all q qs = among_once same same_refl same_eq q [] qs ∙ and-true (among same q qs)

-- prefixes and their bits

pub one_eq : (p q : Prefix) → is_one p q ≡ true → p ≡ q
one_eq p q e =
    let t = both (eqb p.len q.len) (eqb p.value q.value) e in
    λ j. record { value = eqb-true p.value q.value t.1 j; len = eqb-true p.len q.len t.0 j }

module _ (w : ℕ) where
  pub same_bits : (p q : Prefix) → Valid w p.value p.len → Valid w q.value q.len → same (bits_of w p) (bits_of w q) ≡ is_one p q
  same_bits p q v u =
      test_eq (same (bits_of w p) (bits_of w q)) (is_one p q)
      (λ s.
      let e = valid_prefix_unique w p.value p.len q.value q.len v u (same_eq (bits_of w p) (bits_of w q) s) in
      rw (eq-eqb p.len q.len e.1, eq-eqb p.value q.value e.0))
      (λ t. ap (λ (x : Prefix). same (bits_of w p) (bits_of w x)) (sym (one_eq p q t)) ∙ same_refl (bits_of w p))

  pub has_bits_lem : (p : Prefix) (ps : List Prefix) → Valid w p.value p.len → AllValid w ps → has_bits w (bits_of w p) ps ≡ is_named p ps
  unfolding AllValid among
  has_bits_lem p [] v u = refl
  has_bits_lem p (q ∷ ps) v u = rw (same_bits p q v u.0, has_bits_lem p ps v u.1)

  once_bits : (past ps : List Prefix) → AllValid w past → AllValid w ps
      → map (bits_of w) (once_after is_one past ps) ≡ once_after same (map (bits_of w) past) (map (bits_of w) ps)
  unfolding AllValid once_after
  once_bits past [] v u = refl
  once_bits past (p ∷ ps) v u =
      map_ahead (bits_of w) (not (among is_one p past)) p (once_after is_one (p ∷ past) ps)
      ∙ ap₂ (λ (b : Bool) (qs : List Bits). ahead (not b) (bits_of w p) qs) (sym (has_bits_lem p past u.0 v)) (once_bits (p ∷ past) ps (u.0, v) u.1)

  pub those_bits : (f : Prefix → Bool) (g : Bits → Bool) → ((p : Prefix) → Valid w p.value p.len → f p ≡ g (bits_of w p)) → (ps : List Prefix) → AllValid w ps
      → map (bits_of w) (those f ps) ≡ those g (map (bits_of w) ps)
  unfolding AllValid those
  those_bits f g e [] v = refl
  those_bits f g e (p ∷ ps) v =
      map_ahead (bits_of w) (f p) p (those f ps)
      ∙ ap₂ (λ (b : Bool) (qs : List Bits). ahead b (bits_of w p) qs) (e p v.0) (those_bits f g e ps v.1)

-- the final set

-- what is in it, by cases
in_final : (c g : Bool) (port x : ℕ) → 0 < port → ((c && true) || (ltb 0 x && not (c || g))) ≡ ltb 0 (cond c port (cond g 0 x))
in_final true g port x some = sym (lt-ltb 0 port some)
in_final false true port x some = and-false (ltb 0 x)
in_final false false port x some = and-true (ltb 0 x)

module _ (w capacity : ℕ) (M : Mem) (n : ℕ) (S : Routes) (good : GoodFor w capacity M n S) (gone come : List Prefix) (gone_valid : AllValid w gone) (come_valid : AllValid w come) where
  abbrev named : List Bits
  named = map (bits_of w) (come ++ gone)

  abbrev is_in : Bits → Bool
  is_in q = among same q named

  abbrev held : Bits → Bool
  held q = ltb 0 (S q)

  s : Size S n
  s = good_size w capacity M n S good

  holds_bits : (p : Prefix) → Valid w p.value p.len → holds w M n p ≡ held (bits_of w p)
  holds_bits p v = held_is w M n S (prefix_only p.value p.len) good.placed v

  -- named prefixes that are held, and held prefixes that are named
  hits : length (those (holds w M n) (once (come ++ gone))) ≡ length (those is_in s.list)
  hits =
      sym (length-map (those (holds w M n) (once (come ++ gone))) (bits_of w))
      ∙ ap length
      (those_bits w (holds w M n) held holds_bits (once (come ++ gone)) (valid_once w [] (come ++ gone) all)
      ∙ ap (those held) (once_bits w [] (come ++ gone) none all))
      ∙ as_many
    where
      all : AllValid w (come ++ gone)
      all = valid_append w come gone come_valid gone_valid

      none : AllValid w []
      none = valid_none w

      held_ones : List Bits
      held_ones = those held (once_after same [] named)

      named_ones : List Bits
      named_ones = those is_in s.list

      apart_held : Differ same held_ones
      apart_held = differ_those same same_refl same_eq held (once_after same [] named) (differ_once same same_refl same_eq [] named)

      apart_named : Differ same named_ones
      apart_named = differ_those same same_refl same_eq is_in s.list s.differ

      in_held : (q : Bits) → among same q held_ones ≡ (is_in q && held q)
      in_held q =
          among_those same same_refl same_eq held q (once_after same [] named)
          ∙ ap (λ (b : Bool). b && held q) (once_all q named)

      in_named : (q : Bits) → among same q named_ones ≡ (held q && is_in q)
      in_named q = among_those same same_refl same_eq is_in q s.list ∙ ap (λ (b : Bool). b && is_in q) (s.just q)

      turned : (a b : Bool) → (a && b) ≡ true → (b && a) ≡ true
      turned true true e = refl
      turned true false e = e
      turned false b e = absurd (false≢true e)

      to_named : (q : Bits) → among same q held_ones ≡ true → among same q named_ones ≡ true
      to_named q h = in_named q ∙ turned (is_in q) (held q) (sym (in_held q) ∙ h)

      to_held : (q : Bits) → among same q named_ones ≡ true → among same q held_ones ≡ true
      to_held q h = in_held q ∙ turned (held q) (is_in q) (sym (in_named q) ∙ h)

      as_many : length held_ones ≡ length named_ones
      as_many = omega (arith, no_more same same_refl same_eq held_ones named_ones apart_held to_named, no_more same same_refl same_eq named_ones held_ones apart_named to_held)

  pub hits_few : length (those (holds w M n) (once (come ++ gone))) ≤ n
  hits_few = omega (arith, hits, length_split is_in s.list, s.size)

  pub final_size : (port : ℕ) → 0 < port → Size (final_set w port gone come S) (final_count w M n gone come)
  unfolding final_count
  final_size port some = record {
    list = C ++ rest;
    differ =
        differ_append same same_refl same_eq C rest (differ_once same same_refl same_eq [] (map (bits_of w) come))
        (differ_those same same_refl same_eq (λ q. not (is_in q)) s.list s.differ) apart;
    just = just_those;
    size =
        omega (arith, length-append C rest, hits, length_split is_in s.list, s.size, sym (length-map (once come) (bits_of w)), ap length (once_bits w [] come (valid_none w) come_valid));
  }
    where
      C : List Bits
      C = once_after same [] (map (bits_of w) come)

      rest : List Bits
      rest = those (λ q. not (is_in q)) s.list

      is_in_lem : (q : Bits) → is_in q ≡ (has_bits w q come || has_bits w q gone)
      is_in_lem q =
          ap (among same q) (map-append (bits_of w) come gone) ∙ among_append same same_refl same_eq q (map (bits_of w) come) (map (bits_of w) gone)

      in_rest : (q : Bits) → among same q rest ≡ (held q && not (has_bits w q come || has_bits w q gone))
      in_rest q =
          among_those same same_refl same_eq (λ x. not (is_in x)) q s.list
          ∙ ap₂ (λ (a b : Bool). a && not b) (s.just q) (is_in_lem q)

      apart : (q : Bits) → among same q C ≡ true → among same q rest ≡ false
      apart q h =
          let c : has_bits w q come ≡ true = sym (once_all q (map (bits_of w) come)) ∙ h in
          in_rest q ∙ rw c (and-false (held q))

      just_those : (q : Bits) → among same q (C ++ rest) ≡ ltb 0 (final_set w port gone come S q)
      just_those q =
          among_append same same_refl same_eq q C rest
          ∙ ap₂ (λ (a b : Bool). a || b) (once_all q (map (bits_of w) come) ∙ sym (and-true (has_bits w q come))) (in_rest q)
          ∙ in_final (has_bits w q come) (has_bits w q gone) port (S q) some
