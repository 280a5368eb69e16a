-- The text of an outcome determines it, but for the numbers of the entries' jobs.
use Rattle.std.proofs.Common.{◌≡◌, ◌≢◌, ◌<◌, ◌+◌, ◌^◌, ℕ, List, [], ◌∷◌, ◌++◌, length, refl, sym, ap, ◌∙◌, append_assoc, arith}
use Rattle.std.specs.Prelude.{⊤}
use Rattle.lk_names.specs.declared.ledger.Entry.{Entry}
use Rattle.lk_names.specs.declared.ledger.Seen.{Seen}
use Rattle.lk_job_forms.specs.Texts.{entry_text, seen_text, balance_text, total_text, entry_lines_from, seen_lines, balance_lines_from, outcome_text}
use Rattle.lk_job_forms.specs.TextLaws.{IsToldEntry, AreSmallEntries, AreSmallReads, AreSmallBalances, IsSmall}
use Rattle.lk_job_forms.proofs.JobTexts.{entry_same, seen_same, balance_same}

-- The third byte of a text tells which sort of line it begins with: `entry`, `read`, `balance` or
-- `end`.
third : List ℕ → ℕ
third (a ∷ b ∷ c ∷ text) = c
third _ = 0

-- entry by entry alike, but for the numbers of the jobs
abbrev pub AreAlike : List Entry → List Entry → Type 0
AreAlike [] [] = ⊤
AreAlike (e ∷ js) (f ∷ ks) = IsToldEntry e f × AreAlike js ks
AreAlike _ _ = ⊥

entries_same : (n : ℕ) (js ks : List Entry) (x y : List ℕ) → n + length js < 2 ^ 64 → AreSmallEntries js → AreSmallEntries ks → third x ≢ 116 → third y ≢ 116
    → entry_lines_from n js ++ x ≡ entry_lines_from n ks ++ y → AreAlike js ks × (x ≡ y)
unfolding third
entries_same n [] [] x y few hj hk nx ny is = (tt, is)
entries_same n [] (f ∷ ks) x y few hj hk nx ny is = absurd (nx (ap third is))
entries_same n (e ∷ js) [] x y few hj hk nx ny is = absurd (ny (sym (ap third is)))
entries_same n (e ∷ js) (f ∷ ks) x y few hj hk nx ny is =
    let apart = sym (append_assoc (entry_text n e) (entry_lines_from (n + 1) js) x) ∙ is ∙ append_assoc (entry_text n f) (entry_lines_from (n + 1) ks) y in
    let first = entry_same n n e f _ _ (omega (arith, few)) (omega (arith, few)) hj.0 hk.0 apart in
    let rest = entries_same (n + 1) js ks x y (omega (arith, few)) hj.1 hk.1 nx ny first.2 in
    ((first.1, rest.0), rest.1)

reads_same : (rs ss : List Seen) (x y : List ℕ) → AreSmallReads rs → AreSmallReads ss → third x ≢ 97 → third y ≢ 97 → seen_lines rs ++ x ≡ seen_lines ss ++ y → (rs ≡ ss) × (x ≡ y)
unfolding third
reads_same [] [] x y hr hs nx ny is = (refl, is)
reads_same [] (s ∷ ss) x y hr hs nx ny is = absurd (nx (ap third is))
reads_same (r ∷ rs) [] x y hr hs nx ny is = absurd (ny (sym (ap third is)))
reads_same (r ∷ rs) (s ∷ ss) x y hr hs nx ny is =
    let apart = sym (append_assoc (seen_text r) (seen_lines rs) x) ∙ is ∙ append_assoc (seen_text s) (seen_lines ss) y in
    let first = seen_same r s _ _ hr.0 hs.0 apart in
    let rest = reads_same rs ss x y hr.1 hs.1 nx ny first.1 in
    (ap (λ a. a ∷ rs) first.0 ∙ ap (λ l. s ∷ l) rest.0, rest.1)

balances_same : (a : ℕ) (bs cs : List ℕ) (x y : List ℕ) → a + length bs < 2 ^ 64 → AreSmallBalances bs → AreSmallBalances cs → third x ≢ 108 → third y ≢ 108
    → balance_lines_from a bs ++ x ≡ balance_lines_from a cs ++ y → (bs ≡ cs) × (x ≡ y)
unfolding third
balances_same a [] [] x y few hb hc nx ny is = (refl, is)
balances_same a [] (c ∷ cs) x y few hb hc nx ny is = absurd (nx (ap third is))
balances_same a (b ∷ bs) [] x y few hb hc nx ny is = absurd (ny (sym (ap third is)))
balances_same a (b ∷ bs) (c ∷ cs) x y few hb hc nx ny is =
    let apart = sym (append_assoc (balance_text a b) (balance_lines_from (a + 1) bs) x) ∙ is ∙ append_assoc (balance_text a c) (balance_lines_from (a + 1) cs) y in
    let first = balance_same a a b c _ _ (omega (arith, few)) (omega (arith, few)) hb.0 hc.0 apart in
    let rest = balances_same (a + 1) bs cs x y (omega (arith, few)) hb.1 hc.1 nx ny first.2 in
    (ap (λ n. n ∷ bs) first.1 ∙ ap (λ l. c ∷ l) rest.0, rest.1)

-- what stands behind the entries, and behind the reads

behind_entries : (rs : List Seen) (a : ℕ) (bs : List ℕ) (m n : ℕ) → third (seen_lines rs ++ (balance_lines_from a bs ++ total_text m n)) ≢ 116
unfolding third
behind_entries [] a [] m n = λ is. omega (arith, is)
behind_entries [] a (b ∷ bs) m n = λ is. omega (arith, is)
behind_entries (r ∷ rs) a bs m n = λ is. omega (arith, is)

behind_reads : (a : ℕ) (bs : List ℕ) (m n : ℕ) → third (balance_lines_from a bs ++ total_text m n) ≢ 97
unfolding third
behind_reads a [] m n = λ is. omega (arith, is)
behind_reads a (b ∷ bs) m n = λ is. omega (arith, is)

behind_balances : (m n : ℕ) → third (total_text m n) ≢ 108
unfolding third
behind_balances m n = λ is. omega (arith, is)

pub outcome_same : (js ks : List Entry) (rs ss : List Seen) (bs cs : List ℕ) → IsSmall js rs bs → IsSmall ks ss cs → outcome_text js rs bs ≡ outcome_text ks ss cs
    → AreAlike js ks × (rs ≡ ss) × (bs ≡ cs)
outcome_same js ks rs ss bs cs hj hk is =
    let entries = entries_same 1 js ks _ _ (omega (arith, hj.lines)) hj.entries hk.entries (behind_entries rs 0 bs (length js) (length rs)) (behind_entries ss 0 cs (length ks) (length ss)) is in
    let reads = reads_same rs ss _ _ hj.records hk.records (behind_reads 0 bs (length js) (length rs)) (behind_reads 0 cs (length ks) (length ss)) entries.1 in
    let amounts = balances_same 0 bs cs _ _ (omega (arith, hj.lines)) hj.amounts hk.amounts (behind_balances (length js) (length rs)) (behind_balances (length ks) (length ss)) reads.1 in
    (entries.0, reads.0, amounts.0)
