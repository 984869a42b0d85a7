-- What the passes of the call have found, and that its answer is that of the message's prefixes. Assumes nothing.
use mathlib.Core.Path.{◌≡◌, refl, sym, ap, ap₂, ◌∙◌}
use mathlib.Core.Bool.{Bool, or-false}
use mathlib.Core.List.{List, [], ◌++◌}
use Prim.Native.Nat.{ℕ, ◌+◌, ◌-◌, ◌≤◌, ◌<◌}
use native.Mathlib.Omega.{arith}
use native.Mathlib.Nat.{zero-add}
use lib.Dec.{leb, ltb}
use lib.ListN.{length, length-append}
use borrow.Author.Tests.{le-leb, lt-leb, leb-true, ltb-true}
use Rattle.promise.specs.Over.{outcome}
use Rattle.bits.specs.Prefix.{Valid}
use Rattle.lists.proofs.Tests.{both}
use Rattle.prefix.specs.declared.Prefix.{Prefix}
use Rattle.refusals.specs.Refusals.{no_room, accepted, keeping_at}
use Rattle.refusals.specs.declared.Answer.{Answer}
use Rattle.routes.specs.Bounds.{most_routes, last_port}
use Rattle.table_rules.specs.Holds.{GoodOrder}
use Rattle.table_rules.proofs.Good.{check_is_good}
use Rattle.table_rows.specs.Words.{five_words}
use Rattle.table_rows.proofs.Words.{words_stores}
use Rattle.table_update.specs.History.{Table}
use Rattle.octets.specs.Bytes.{Bytes}
use Rattle.message_rules.specs.Message.{prefixes_in, AllValid}
use Rattle.message_rules.proofs.Walk.{length_prefixes, valid_prefixes}
use Rattle.message_calls.specs.Once.{among, those}
use Rattle.message_calls.specs.Named.{is_one, is_named, once, holds, final_count}
use Rattle.message_calls.specs.Steps.{Noted, note_one, noted, dropped, added}
use Rattle.message_calls.specs.Apply.{done_as, applied_to}
use Rattle.message_calls.proofs.Once.{those_le, once_le}
use Rattle.message_calls.proofs.Final.{hits_few, valid_append}
use Rattle.message_calls.proofs.Noting.{folded_append, holding_none, NotedIs, noted_is}
use Rattle.message_calls.proofs.Applied.{applied_calls, down}
use Rattle.message_apply.specs.Needs.{seen_size, table_as, noted_as, Applies}
use Rattle.message_apply.specs.declared.Tally.{Tally}

-- nothing met
abbrev none : Tally
none = record { met = 0; hits = 0 }

module _ (port : ℕ) (gone come words : List ℕ) (n : ℕ) (ok : Applies port gone come words n) (gone-bytes : Bytes gone) (come-bytes : Bytes come) where
  abbrev gs : List Prefix
  gs = prefixes_in 32 gone

  abbrev cs : List Prefix
  cs = prefixes_in 32 come

  abbrev held : Prefix → Bool
  held = holds 32 (five_words.get words) n

  order : GoodOrder 32 (five_words.room words) (five_words.get words) n
  order = (check_is_good 32 (five_words.room words) (five_words.get words) n).0 ok.good

  some : 0 < port
  some = ltb-true 0 port (both (ltb 0 port) (leb port last_port) ok.ported).0

  most : port ≤ last_port
  most = leb-true port last_port (both (ltb 0 port) (leb port last_port) ok.ported).1

  gone_valid : AllValid 32 gs
  gone_valid = valid_prefixes 32 gone refl gone-bytes (length gone) 0

  come_valid : AllValid 32 cs
  come_valid = valid_prefixes 32 come refl come-bytes (length come) 0

  pub few : n ≤ most_routes
  few = omega (arith, order.1.few)

  -- a pass over the announced ones from nothing, in a table with a row for each prefix of a message
  module _ (seen : List ℕ) (long : seen_size ≤ length seen) where
    lists_few : length cs + length gs ≤ 4096
    lists_few = omega (arith, length_prefixes 32 come (length come) 0, length_prefixes 32 gone (length gone) 0, ok.few)

    room : length cs + length gs ≤ five_words.room seen
    room = omega (arith, long, lists_few)

    announced_noted : NotedIs five_words 32 (words_stores 32) held port some most (noted_as seen none) [] cs (noted five_words 32 held port (noted_as seen none) cs)
    announced_noted =
        noted_is five_words 32 (words_stores 32) held port some most (noted_as seen none) [] cs come_valid
        (holding_none five_words 32 (words_stores 32) held port some most seen) (omega (arith, room))

    module _ (seen₁ : List ℕ) (a : Tally) (a_is : noted_as seen₁ a ≡ noted five_words 32 held port (noted_as seen none) cs) where
      announced_met : a.met ≡ length (once cs)
      announced_met = ap (λ (s : Noted). s.met.count) a_is ∙ announced_noted.count ∙ zero-add (length (once cs))

      announced_hits : a.hits ≡ length (those held (once cs))
      announced_hits = ap (λ (s : Noted). s.hits) a_is ∙ announced_noted.hits ∙ zero-add (length (those held (once cs)))

      pub announced_small : (a.met ≤ length come) × (a.hits ≤ length come)
      announced_small = (
        omega (arith, announced_met, once_le is_one [] cs, length_prefixes 32 come (length come) 0),
        omega (arith, announced_hits, those_le held (once cs), once_le is_one [] cs, length_prefixes 32 come (length come) 0),
      )

      -- then over the withdrawn ones too
      module _ (seen₂ : List ℕ) (b : Tally) (b-is : noted_as seen₂ b ≡ noted five_words 32 held port (noted_as seen₁ a) gs) where
        all_valid : AllValid 32 (cs ++ gs)
        all_valid = valid_append 32 cs gs come_valid gone_valid

        both_passes : noted_as seen₂ b ≡ noted five_words 32 held port (noted_as seen none) (cs ++ gs)
        both_passes =
            b-is ∙ ap (λ (s : Noted). noted five_words 32 held port s gs) a_is
            ∙ sym (folded_append (note_one five_words 32 held port) (noted_as seen none) cs gs)

        named_hits : b.hits ≡ length (those held (once (cs ++ gs)))
        named_hits =
            ap (λ (s : Noted). s.hits) both_passes
            ∙ (noted_is five_words 32 (words_stores 32) held port some most (noted_as seen none) [] (cs ++ gs) all_valid
            (holding_none five_words 32 (words_stores 32) held port some most seen) (omega (arith, room, length-append cs gs))).hits
            ∙ zero-add (length (those held (once (cs ++ gs))))

        hits_le : b.hits ≤ n
        hits_le = omega (arith, named_hits, hits_few 32 (five_words.room words) (five_words.get words) n order.0 order.1 gs cs gone_valid come_valid)

        pub hits_small : b.hits ≤ most_routes
        hits_small = omega (arith, hits_le, few)

        counted : final_count 32 (five_words.get words) n gs cs ≡ n - b.hits + a.met
        unfolding final_count
        counted = ap₂ (λ (h m : ℕ). n - h + m) (sym named_hits) (sym announced_met)

        module _ (c : ℕ) (c_is : c ≡ five_words.room words) where
          -- refused, and no row is written
          pub too_many : c + b.hits < n + a.met → (r : Answer) → r ≡ keeping_at no_room 0 n → outcome r words ≡ applied_to five_words 32 port gs cs words n
          unfolding applied_to
          too_many h r r-is =
              let over : five_words.room words < final_count 32 (five_words.get words) n gs cs = omega (arith, counted, c_is, hits_le) in
              ap (λ (x : Answer). outcome x words) r-is
              ∙ sym (rw (lt-leb (final_count 32 (five_words.get words) n gs cs) (five_words.room words) over))

          module _ (h : n + a.met ≤ c + b.hits) where
            fits : final_count 32 (five_words.get words) n gs cs ≤ five_words.room words
            fits = omega (arith, counted, c_is, hits_le)

            -- the announced ones again, alone
            module _ (seen' : List ℕ) (long' : seen_size ≤ length seen') (seen₃ : List ℕ) (k : Tally)
                (k-is : noted_as seen₃ k ≡ noted five_words 32 held port (noted_as seen' none) cs) where
              abbrev skip : Prefix → Bool
              skip = holds 32 (five_words.get seen₃) k.met

              skips : (p : Prefix) → Valid 32 p.value p.len → skip p ≡ is_named p cs
              unfolding among
              skips p v =
                  ap (λ (s : Noted). holds 32 (five_words.get s.met.words) s.met.count p) k-is
                  ∙ (noted_is five_words 32 (words_stores 32) held port some most (noted_as seen' none) [] cs come_valid
                  (holding_none five_words 32 (words_stores 32) held port some most seen') (omega (arith, long', lists_few))).just p v
                  ∙ or-false (is_named p cs)

              module _ (words₁ : List ℕ) (left : ℕ) (left_is : table_as words₁ left ≡ dropped five_words 32 skip (table_as words n) gs) where
                pub left_small : left ≤ most_routes
                left_small =
                    let d = down five_words 32 (words_stores 32) port some most (table_as words n) order.0 order.1 gs cs gone_valid come_valid skip skips fits in
                    omega (arith, ap (λ (t : Table). t.count) left_is, d.good.few, d.room)

                pub applied : (words₂ : List ℕ) (m : ℕ) → table_as words₂ m ≡ added five_words 32 port (table_as words₁ left) cs → (r : Answer) → r ≡ accepted m
                    → outcome r words₂ ≡ applied_to five_words 32 port gs cs words n
                unfolding applied_to
                applied words₂ m m-is r r-is =
                    ap (λ (x : Answer). outcome x words₂) r-is
                    ∙ ap done_as
                    (m-is ∙ ap (λ (t : Table). added five_words 32 port t cs) left_is
                    ∙ sym (applied_calls five_words 32 (words_stores 32) port some most (table_as words n) order.0 order.1 gs cs gone_valid come_valid skip skips fits))
                    ∙ sym (rw (le-leb (final_count 32 (five_words.get words) n gs cs) (five_words.room words) fits))
