-- The words that the calls leave are the only ones with these rows, and with these words after them. Assumes nothing.
use mathlib.Core.Path.{◌≡◌, refl, sym, ap, ◌∙◌, subst}
use mathlib.Core.Logic.{⊎_elim}
use mathlib.Core.Bool.{cond}
use mathlib.Core.List.{List}
use Prim.Native.Nat.{ℕ, zero, suc, ◌+◌, ◌*◌, ◌-◌, ◌/◌, ◌%◌, ◌<◌, ◌≤◌}
use native.Mathlib.Omega.{arith}
use native.Mathlib.Nat.{add-zero}
use lib.Dec.{eqb, ltb}
use lib.ListN.{length, get_or, drop, length-set}
use lib.Seq.{get_or-drop, ext_get_or, drop-set-lt}
use borrow.Author.Tests.{lt-ltb, ltb-true}
use Rattle.lists.proofs.Tests.{lt_or_le}
use Rattle.promise.specs.Over.{Outcome, outcome}
use Rattle.bits.specs.Bits.{prefix_bits}
use Rattle.refusals.specs.Refusals.{accepted}
use Rattle.refusals.specs.declared.Answer.{Answer}
use Rattle.routes.specs.declared.Route.{Route}
use Rattle.table_rules.specs.Rows.{Mem}
use Rattle.table_rules.specs.declared.Row.{Row}
use Rattle.table_rules.proofs.Closed.{by_cond, announced_keeps, withdrawn_keeps}
use Rattle.table_rows.specs.Words.{row_size, row_count, whole_row, row_at, store_whole, store_row, five_words}
use Rattle.table_rows.proofs.Words.{row_words, words_stores}
use Rattle.table_update.specs.Calls.{announce_into, prefix_only, withdraw_into}
use Rattle.table_places.specs.Words.{after_rows}
use Rattle.table_places.specs.Theorems.{WordsUnique, AnnouncedWords, AnnouncedWordsIs, AnnouncedWordsOne, WithdrawnWords, WithdrawnWordsIs, WithdrawnWordsOne}
use Rattle.table_places.proofs.One.{announced_whole_one, announced_whole_is, withdrawn_whole_one, withdrawn_whole_is}
use Rattle.table_places.proofs.Accepted.{announce_taken, withdraw_freed}

-- a word of a whole row
word_at : (ws : List ℕ) (r k : ℕ) → r < row_count ws → k < row_size → get_or ws (r * row_size + k) 0 ≡ get_or (row_words (row_at ws r)) k 0
unfolding row_at
word_at ws r k h l =
    by k l ∙ ap (λ (x : Row). get_or (row_words x) k 0) (sym (rw (lt-ltb r (row_count ws) h)))
  where
    by : (k : ℕ) → k < row_size → get_or ws (r * row_size + k) 0 ≡ get_or (row_words (whole_row ws r)) k 0
    by zero l = ap (λ (i : ℕ). get_or ws i 0) (add-zero (r * row_size))
    by (suc zero) l = refl
    by (suc (suc zero)) l = refl
    by (suc (suc (suc zero))) l = refl
    by (suc (suc (suc (suc zero)))) l = refl
    by (suc (suc (suc (suc (suc k))))) l = absurd (omega arith)

pub words_unique : WordsUnique
words_unique ws vs size rows after =
    ext_get_or 0 ws vs size (λ i h. ⊎_elim (in_row i) (past i) (lt_or_le i (row_count ws * row_size)))
  where
    count : row_count ws ≡ row_count vs
    count = ap (λ (n : ℕ). n / row_size) size

    in_row : (i : ℕ) → i < row_count ws * row_size → get_or ws i 0 ≡ get_or vs i 0
    in_row i h =
        let r : ℕ = i / row_size in
        let k : ℕ = i % row_size in
        let is : i ≡ r * row_size + k = omega arith in
        let low : r < row_count ws = omega arith in
        let short : k < row_size = omega arith in
        ap (λ (j : ℕ). get_or ws j 0) is ∙ word_at ws r k low short ∙ ap (λ (x : Row). get_or (row_words x) k 0) (rows r low)
        ∙ sym (word_at vs r k (rw (← count) low) short) ∙ ap (λ (j : ℕ). get_or vs j 0) (sym is)

    past : (i : ℕ) → row_count ws * row_size ≤ i → get_or ws i 0 ≡ get_or vs i 0
    past i h =
        let j : ℕ = i - row_count ws * row_size in
        let is : row_count ws * row_size + j ≡ i = omega arith in
        let is' : row_count vs * row_size + j ≡ i = omega (arith, count) in
        ap (λ (m : ℕ). get_or ws m 0) (sym is) ∙ sym (get_or-drop (row_count ws * row_size) ws j 0) ∙ ap (λ (l : List ℕ). get_or l j 0) after
        ∙ get_or-drop (row_count vs * row_size) vs j 0 ∙ ap (λ (m : ℕ). get_or vs m 0) is'

-- a stored row keeps the number of words, and the words after the rows
length_put : (ws : List ℕ) (r : ℕ) (x : Row) → length (store_row ws r x) ≡ length ws
unfolding store_row
length_put ws r x = by_cond (λ (l : List ℕ). length l ≡ length ws) (ltb r (row_count ws)) _ _ (λ e. simp length-set) (λ e. refl)

after_put : (ws : List ℕ) (r : ℕ) (x : Row) → after_rows (store_row ws r x) ≡ after_rows ws
after_put ws r x = ap (λ (n : ℕ). drop (n / row_size * row_size) (store_row ws r x)) (length_put ws r x) ∙ kept
  where
    kept : drop (row_count ws * row_size) (store_row ws r x) ≡ drop (row_count ws * row_size) ws
    kept =
        unfold store_row in
        by_cond (λ (l : List ℕ). drop (row_count ws * row_size) l ≡ drop (row_count ws * row_size) ws) (ltb r (row_count ws)) (store_whole ws r x) ws
        (λ e.
        let n : ℕ = row_count ws * row_size in
        let h : r < row_count ws = ltb-true r (row_count ws) e in
        drop-set-lt n _ (r * row_size + 4) x.right (omega arith) ∙ drop-set-lt n _ (r * row_size + 3) x.left (omega arith)
        ∙ drop-set-lt n _ (r * row_size + 2) x.port (omega arith) ∙ drop-set-lt n _ (r * row_size + 1) x.len (omega arith)
        ∙ drop-set-lt n ws (r * row_size) x.value (omega arith))
        (λ e. refl)

-- words with these rows are one
same_words : (words ws vs : List ℕ) → length ws ≡ length words → length vs ≡ length words → after_rows ws ≡ after_rows words
    → after_rows vs ≡ after_rows words → row_at ws ≡ row_at vs → ws ≡ vs
same_words words ws vs size size' after after' rows =
    words_unique ws vs (size ∙ sym size') (λ i h. ap (λ (M : Mem). M i) rows) (after ∙ sym after')

pub announced_words_is : AnnouncedWordsIs
announced_words_is w words n S q good fits done =
    let t = announce_taken five_words w words n S good.placed q fits done in
    subst (λ (x : Outcome Answer). AnnouncedWords w words x.lent n S q good.placed) (sym t.is)
    (record {
      whole = announced_whole_is (List ℕ) five_words w (words_stores w) words n S q good.placed t.valid good.few t.room;
      size = announced_keeps five_words length length_put w words n q;
      after = announced_keeps five_words after_rows after_put w words n q;
    })

pub announced_words_one : AnnouncedWordsOne
announced_words_one w words lent n S q good fits done a =
    let t = announce_taken five_words w words n S good.placed q fits done in
    let b = announced_words_is w words n S q good fits done in
    let n' : ℕ = cond (eqb (S (prefix_bits w q.value q.len)) 0) (n + 1) n in
    let left : Outcome Answer = announce_into five_words w words n q in
    let same : left.lent ≡ lent =
    same_words words left.lent lent b.size a.size b.after a.after
    (announced_whole_one w (row_at words) (row_at left.lent) (row_at lent) n S q good.placed b.whole a.whole) in
    t.is ∙ ap (outcome (accepted n')) (ap (λ (o : Outcome Answer). o.lent) (sym t.is) ∙ same)

pub withdrawn_words_is : WithdrawnWordsIs
withdrawn_words_is w words n S value len good fits done =
    let q : Route = prefix_only value len in
    let t = withdraw_freed five_words w words n S good.placed value len fits done in
    subst (λ (x : Outcome Answer). WithdrawnWords w words x.lent n S q good.placed) (sym t.is)
    (record {
      whole = withdrawn_whole_is (List ℕ) five_words w (words_stores w) words n S q good.placed t.valid good.few t.live;
      size = withdrawn_keeps five_words length length_put w words n q;
      after = withdrawn_keeps five_words after_rows after_put w words n q;
    })

pub withdrawn_words_one : WithdrawnWordsOne
withdrawn_words_one w words lent n S value len good fits done a =
    let q : Route = prefix_only value len in
    let t = withdraw_freed five_words w words n S good.placed value len fits done in
    let b = withdrawn_words_is w words n S value len good fits done in
    let left : Outcome Answer = withdraw_into five_words w words n value len in
    let live : 0 < S (prefix_bits w value len) = t.live in
    let held = good.routes.only (prefix_bits w value len) live in
    let same : left.lent ≡ lent =
    same_words words left.lent lent b.size a.size b.after a.after
    (withdrawn_whole_one w (row_at words) (row_at left.lent) (row_at lent) n S q good.placed (omega (arith, held.1)) b.whole a.whole) in
    t.is ∙ ap (outcome (accepted (n - 1))) (ap (λ (o : Outcome Answer). o.lent) (sym t.is) ∙ same)
