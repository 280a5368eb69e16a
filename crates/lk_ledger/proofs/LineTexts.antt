-- The lines of an outcome, one behind the other, on their way to a sink.
use Rattle.std.proofs.Common.{◌≡◌, ◌<◌, ◌+◌, ℕ, suc, List, [], ◌∷◌, ◌++◌, Option, Result, Ok, Err, OnErr, length, take, drop, get_or, refl, sym, ap, ◌∙◌, append_assoc, append-nil, subst, arith}
use Rattle.std.proofs.lemmas.List.{take_more, take-append-drop, length-take-le}
use Rattle.lk_names.specs.declared.ledger.Entry.{Entry}
use Rattle.lk_names.specs.declared.ledger.Seen.{Seen}
use Rattle.lk_text.specs.Bytes.{AppendsFront, Conveys}
use Rattle.lk_text.proofs.Conveyed.{Conveys-trans, front_of_conveyed, front_of_more}
use Rattle.lk_job_forms.specs.Texts.{entry_text, seen_text, balance_text, entry_lines_from, seen_lines, balance_lines_from}

-- the lines of a list in parts

entries_in_parts : (n : ℕ) (js ks : List Entry)
    → entry_lines_from n (js ++ ks) ≡ entry_lines_from n js ++ entry_lines_from (n + length js) ks
entries_in_parts n [] ks =
    let same : n ≡ n + 0 = omega arith in ap (λ m. entry_lines_from m ks) same
entries_in_parts n (e ∷ js) ks =
    let next : n + 1 + length js ≡ n + suc (length js) = omega arith in
    ap (λ l. entry_text n e ++ l) (entries_in_parts (n + 1) js ks)
    ∙ sym (append_assoc (entry_text n e) (entry_lines_from (n + 1) js) (entry_lines_from (n + 1 + length js) ks))
    ∙ ap (λ m. (entry_text n e ++ entry_lines_from (n + 1) js) ++ entry_lines_from m ks) next

reads_in_parts : (rs ss : List Seen) → seen_lines (rs ++ ss) ≡ seen_lines rs ++ seen_lines ss
reads_in_parts [] ss = refl
reads_in_parts (r ∷ rs) ss =
    ap (λ l. seen_text r ++ l) (reads_in_parts rs ss)
    ∙ sym (append_assoc (seen_text r) (seen_lines rs) (seen_lines ss))

balances_in_parts : (a : ℕ) (bs cs : List ℕ)
    → balance_lines_from a (bs ++ cs) ≡ balance_lines_from a bs ++ balance_lines_from (a + length bs) cs
balances_in_parts a [] cs =
    let same : a ≡ a + 0 = omega arith in ap (λ m. balance_lines_from m cs) same
balances_in_parts a (b ∷ bs) cs =
    let next : a + 1 + length bs ≡ a + suc (length bs) = omega arith in
    ap (λ l. balance_text a b ++ l) (balances_in_parts (a + 1) bs cs)
    ∙ sym (append_assoc (balance_text a b) (balance_lines_from (a + 1) bs) (balance_lines_from (a + 1 + length bs) cs))
    ∙ ap (λ m. (balance_text a b ++ balance_lines_from (a + 1) bs) ++ balance_lines_from m cs) next

-- one line more

entries_more : (n : ℕ) (js : List Entry) (i m : ℕ) (d : Entry) → i < length js → m ≡ n + i
    → entry_lines_from n (take (i + 1) js) ≡ entry_lines_from n (take i js) ++ entry_text m (get_or js i d)
entries_more n js i m d below is =
    ap (entry_lines_from n) (take_more js i d below)
    ∙ entries_in_parts n (take i js) (get_or js i d ∷ [])
    ∙ ap (λ m. entry_lines_from n (take i js) ++ (entry_text (n + m) (get_or js i d) ++ [])) (length-take-le i js (omega (arith, below)))
    ∙ ap (λ l. entry_lines_from n (take i js) ++ l) (append-nil (entry_text (n + i) (get_or js i d)))
    ∙ ap (λ k. entry_lines_from n (take i js) ++ entry_text k (get_or js i d)) (sym is)

reads_more : (rs : List Seen) (i : ℕ) (d : Seen) → i < length rs
    → seen_lines (take (i + 1) rs) ≡ seen_lines (take i rs) ++ seen_text (get_or rs i d)
reads_more rs i d below =
    ap seen_lines (take_more rs i d below)
    ∙ reads_in_parts (take i rs) (get_or rs i d ∷ [])
    ∙ ap (λ l. seen_lines (take i rs) ++ l) (append-nil (seen_text (get_or rs i d)))

balances_more : (a : ℕ) (bs : List ℕ) (i m d : ℕ) → i < length bs → m ≡ a + i
    → balance_lines_from a (take (i + 1) bs) ≡ balance_lines_from a (take i bs) ++ balance_text m (get_or bs i d)
balances_more a bs i m d below is =
    ap (balance_lines_from a) (take_more bs i d below)
    ∙ balances_in_parts a (take i bs) (get_or bs i d ∷ [])
    ∙ ap (λ m. balance_lines_from a (take i bs) ++ (balance_text (a + m) (get_or bs i d) ++ [])) (length-take-le i bs (omega (arith, below)))
    ∙ ap (λ l. balance_lines_from a (take i bs) ++ l) (append-nil (balance_text (a + i) (get_or bs i d)))
    ∙ ap (λ k. balance_lines_from a (take i bs) ++ balance_text k (get_or bs i d)) (sym is)

-- One line more goes on to the sink. `held` is what the sink held at first, `held_then` what it held
-- before the line, and `held_now` what it holds.
module _ (held held_then held_now : Option (List ℕ)) (waited waits waits_now line : List ℕ) where
  pub entry_goes : (n : ℕ) (js : List Entry) (i m : ℕ) (d : Entry) → i < length js → m ≡ n + i
      → line ≡ entry_text m (get_or js i d)
      → Conveys held held_then waited (entry_lines_from n (take i js)) waits
      → Conveys held_then held_now waits line waits_now
      → Conveys held held_now waited (entry_lines_from n (take (i + 1) js)) waits_now
  entry_goes n js i m d below is text so_far more =
      subst (λ t. Conveys held held_now waited t waits_now)
      (ap (λ l. entry_lines_from n (take i js) ++ l) text ∙ sym (entries_more n js i m d below is))
      (Conveys-trans held held_then held_now waited waits waits_now _ line so_far more)

  pub read_goes : (rs : List Seen) (i : ℕ) (d : Seen) → i < length rs
      → line ≡ seen_text (get_or rs i d)
      → Conveys held held_then waited (seen_lines (take i rs)) waits
      → Conveys held_then held_now waits line waits_now
      → Conveys held held_now waited (seen_lines (take (i + 1) rs)) waits_now
  read_goes rs i d below text so_far more =
      subst (λ t. Conveys held held_now waited t waits_now)
      (ap (λ l. seen_lines (take i rs) ++ l) text ∙ sym (reads_more rs i d below))
      (Conveys-trans held held_then held_now waited waits waits_now _ line so_far more)

  pub balance_goes : (a : ℕ) (bs : List ℕ) (i m d : ℕ) → i < length bs → m ≡ a + i
      → line ≡ balance_text m (get_or bs i d)
      → Conveys held held_then waited (balance_lines_from a (take i bs)) waits
      → Conveys held_then held_now waits line waits_now
      → Conveys held held_now waited (balance_lines_from a (take (i + 1) bs)) waits_now
  balance_goes a bs i m d below is text so_far more =
      subst (λ t. Conveys held held_now waited t waits_now)
      (ap (λ l. balance_lines_from a (take i bs) ++ l) text ∙ sym (balances_more a bs i m d below is))
      (Conveys-trans held held_then held_now waited waits waits_now _ line so_far more)

-- What waits could not be put, and a front of it was written.
pub cut_behind : {T E : Type 0} (held held_then held_now : Option (List ℕ)) (waited waits text : List ℕ)
    (r : Result T E) → Conveys held held_then waited text waits → OnErr r (AppendsFront held_then held_now waits)
    → OnErr r (AppendsFront held held_now (waited ++ text))
cut_behind held held_then held_now waited waits text (Ok t) conveyed front = tt
cut_behind held held_then held_now waited waits text (Err fault) conveyed front =
    front_of_conveyed held held_then held_now waited waits text conveyed front

-- A write failed behind the first lines: a front of all of them was written. `held` is what the sink
-- held at first, `held_then` what it held at the line that failed, and `held_now` what it holds.
module _ (held held_then held_now : Option (List ℕ)) (waited waits : List ℕ) where
  cut : (first rest text : List ℕ) → text ≡ first ++ rest → Conveys held held_then waited first waits
      → AppendsFront held_then held_now waits → AppendsFront held held_now (waited ++ text)
  cut first rest text whole conveyed front =
      subst (AppendsFront held held_now) (append_assoc waited first rest ∙ ap (λ l. waited ++ l) (sym whole))
      (front_of_more held held_now (waited ++ first) rest
      (front_of_conveyed held held_then held_now waited waits first conveyed front))

  pub entries_cut : (n : ℕ) (js : List Entry) (i : ℕ)
      → Conveys held held_then waited (entry_lines_from n (take i js)) waits
      → AppendsFront held_then held_now waits
      → AppendsFront held held_now (waited ++ entry_lines_from n js)
  entries_cut n js i = cut (entry_lines_from n (take i js)) (entry_lines_from (n + length (take i js)) (drop i js)) (entry_lines_from n js)
      (ap (entry_lines_from n) (sym (take-append-drop i js)) ∙ entries_in_parts n (take i js) (drop i js))

  pub reads_cut : (rs : List Seen) (i : ℕ)
      → Conveys held held_then waited (seen_lines (take i rs)) waits
      → AppendsFront held_then held_now waits
      → AppendsFront held held_now (waited ++ seen_lines rs)
  reads_cut rs i = cut (seen_lines (take i rs)) (seen_lines (drop i rs)) (seen_lines rs)
      (ap seen_lines (sym (take-append-drop i rs)) ∙ reads_in_parts (take i rs) (drop i rs))

  pub balances_cut : (a : ℕ) (bs : List ℕ) (i : ℕ)
      → Conveys held held_then waited (balance_lines_from a (take i bs)) waits
      → AppendsFront held_then held_now waits
      → AppendsFront held held_now (waited ++ balance_lines_from a bs)
  balances_cut a bs i = cut (balance_lines_from a (take i bs)) (balance_lines_from (a + length (take i bs)) (drop i bs)) (balance_lines_from a bs)
      (ap (balance_lines_from a) (sym (take-append-drop i bs)) ∙ balances_in_parts a (take i bs) (drop i bs))
