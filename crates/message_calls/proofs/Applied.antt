-- A message whose final set fits: its calls are its prefixes taken one by one, and leave the final set. Assumes nothing.
use mathlib.Core.Path.{◌≡◌, refl, sym, ap, ap₂, ◌∙◌, subst, fun_ext}
use mathlib.Core.Bool.{Bool, true, false, cond, not, ◌&&◌}
use mathlib.Core.List.{List, [], ◌∷◌, map}
use Prim.Native.Nat.{ℕ, ◌≤◌, ◌<◌}
use Rattle.bits.specs.Bits.{Bits, same}
use Rattle.bits.specs.Prefix.{Valid}
use Rattle.bits.proofs.Bits.{same_refl, same_eq}
use Rattle.trie.specs.Routes.{Routes}
use Rattle.prefix.specs.declared.Prefix.{Prefix}
use Rattle.routes.specs.Bounds.{last_port}
use Rattle.table_rules.specs.Rows.{Layout, Stores}
use Rattle.table_update.specs.History.{Table, ran, AllAccepted}
use Rattle.message_rules.specs.Message.{AllValid}
use Rattle.message_calls.specs.Once.{ahead, those, among}
use Rattle.message_calls.specs.Named.{is_named, remaining, withdrawals, announcements, calls_for, final_count, bits_of, has_bits, final_set, Size}
use Rattle.message_calls.specs.Steps.{dropped, added}
use Rattle.message_calls.proofs.Once.{among_those}
use Rattle.message_calls.proofs.Final.{has_bits_lem, those_bits, final_size}
use Rattle.message_calls.proofs.Running.{TableGood, ran_append, without, Dropped, dropped_is}
use Rattle.message_calls.proofs.Adding.{with, Added, added_is}

-- tests that agree on valid prefixes let the same pass
those_valid : (w : ℕ) (f g : Prefix → Bool) → ((p : Prefix) → Valid w p.value p.len → f p ≡ g p) → (ps : List Prefix) → AllValid w ps
    → those f ps ≡ those g ps
unfolding those AllValid
those_valid w f g e [] v = refl
those_valid w f g e (p ∷ ps) v =
    ap₂ (λ (b : Bool) (qs : List Prefix). ahead b p qs) (e p v.0) (those_valid w f g e ps v.1)

-- withdrawn, but not announced
remaining_bits : (w : ℕ) (gone come : List Prefix) → AllValid w gone → AllValid w come → (q : Bits)
    → has_bits w q (remaining gone come) ≡ (has_bits w q gone && not (has_bits w q come))
remaining_bits w gone come v u q =
    ap (among same q) (those_bits w (λ p. not (is_named p come)) (λ x. not (has_bits w x come)) (λ p ok. ap not (sym (has_bits_lem w p come ok u))) gone v)
    ∙ among_those same same_refl same_eq (λ x. not (has_bits w x come)) q (map (bits_of w) gone)

final_by : (c g : Bool) (port x : ℕ) → cond c port (cond (g && not c) 0 x) ≡ cond c port (cond g 0 x)
final_by true g port x = refl
final_by false true port x = refl
final_by false false port x = refl

module _ (L : Layout (List ℕ)) (w : ℕ) (st : Stores w L) (port : ℕ) (some : 0 < port) (most : port ≤ last_port) (t : Table) (S : Routes) (good : TableGood L w t S)
    (gone come : List Prefix) (gone_valid : AllValid w gone) (come_valid : AllValid w come) where
  final_is : with L w st port some most come (without L w st (remaining gone come) S) ≡ final_set w port gone come S
  final_is =
      fun_ext (λ q.
      ap (λ (b : Bool). cond (has_bits w q come) port (cond b 0 (S q))) (remaining_bits w gone come gone_valid come_valid q)
      ∙ final_by (has_bits w q come) (has_bits w q gone) port (S q))

  module _ (skip : Prefix → Bool) (skips : (p : Prefix) → Valid w p.value p.len → skip p ≡ is_named p come)
      (fits : final_count w (L.get t.words) t.count gone come ≤ L.room t.words) where
    -- the prefixes taken one by one
    abbrev left : Table
    left = added L w port (dropped L w skip t gone) come

    are_remaining : those (λ p. not (skip p)) gone ≡ remaining gone come
    are_remaining = those_valid w (λ p. not (skip p)) (λ p. not (is_named p come)) (λ p ok. ap not (skips p ok)) gone gone_valid

    pub down : Dropped L w st skip t S gone
    down = dropped_is L w st skip t S gone gone_valid good

    down_good : TableGood L w (dropped L w skip t gone) (without L w st (remaining gone come) S)
    down_good = subst (λ (ps : List Prefix). TableGood L w (dropped L w skip t gone) (without L w st ps S)) are_remaining down.good

    up : Added L w st port some most (dropped L w skip t gone) (without L w st (remaining gone come) S) come
    up =
        added_is L w st port some most (dropped L w skip t gone) (without L w st (remaining gone come) S) come (final_count w (L.get t.words) t.count gone come) come_valid down_good
        (subst (λ (T : Routes). Size T (final_count w (L.get t.words) t.count gone come)) (sym final_is)
        (final_size w (L.room t.words) (L.get t.words) t.count S good gone come gone_valid come_valid port some))
        (rw down.room fits)

    pub applied_calls : ran L w t (calls_for port gone come) ≡ left
    applied_calls =
        ran_append L w t (withdrawals (remaining gone come)) (announcements port come)
        ∙ ap (λ (u : Table). ran L w u (announcements port come))
        (ap (λ (ps : List Prefix). ran L w t (withdrawals ps)) (sym are_remaining) ∙ down.calls)
        ∙ up.calls

    -- none of the announcements is refused
    pub applied_each : AllAccepted L w (ran L w t (withdrawals (remaining gone come))) (announcements port come)
    applied_each =
        subst (λ (u : Table). AllAccepted L w u (announcements port come))
        (sym (ap (λ (ps : List Prefix). ran L w t (withdrawals ps)) (sym are_remaining) ∙ down.calls)) up.each

    pub applied_good : TableGood L w left (final_set w port gone come S)
    applied_good = subst (TableGood L w left) final_is up.good
