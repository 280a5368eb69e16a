-- Each line of an outcome determines what it tells, whatever stands behind it.
use Rattle.std.proofs.Common.{◌≡◌, ◌≤◌, ◌<◌, ◌^◌, ℕ, true, List, [], ◌∷◌, ◌++◌, length, refl, sym, ap, ◌∙◌, append_assoc, arith, codes, decimal, if◌then◌else◌}
use Rattle.std.specs.List.{list_all}
use Rattle.std.specs.Str.{bytes_eq}
use Rattle.std.specs.Char.{digit_value}
use Rattle.std.specs.Str.Parse.{AllDigits}
use Rattle.std.proofs.lemmas.Fmt.{decimal_is_IsNumeral}
use Rattle.lk_names.specs.declared.ledger.Job.{Job}
use Rattle.lk_names.specs.declared.ledger.Job.TheVariants.{Move, Add, Sum, Get}
use Rattle.lk_names.specs.declared.ledger.Reply.{Reply}
use Rattle.lk_names.specs.declared.ledger.Reply.TheVariants.{Done, Short, Full, Amount}
use Rattle.lk_names.specs.declared.ledger.Entry.{Entry}
use Rattle.lk_names.specs.declared.ledger.Seen.{Seen}
use Rattle.lk_forms.proofs.TextParts.{is_letter, number_same, words_same, space_apart}
use Rattle.lk_job_forms.specs.Texts.{job_text, reply_text, answered_text, entry_text, seen_text, balance_text, total_text}
use Rattle.lk_job_forms.specs.TextLaws.{IsSmallJob, IsSmallReply, IsSmallEntry, IsSmallSeen, IsToldEntry}

-- jobs, each with a space behind it

name_of : Job → List ℕ
name_of (Move from to amount) = codes "move"
name_of (Add account amount) = codes "add"
name_of Sum = codes "sum"
name_of (Get account) = codes "get"

sort_of : Job → ℕ
sort_of (Move from to amount) = 0
sort_of (Add account amount) = 1
sort_of Sum = 2
sort_of (Get account) = 3

sort_named : List ℕ → ℕ
sort_named word =
    if bytes_eq word (codes "move") then 0
    else if bytes_eq word (codes "add") then 1
    else if bytes_eq word (codes "sum") then 2
    else 3

sort_named-name : (j : Job) → sort_named (name_of j) ≡ sort_of j
unfolding sort_named sort_of name_of
sort_named-name Sum = refl
sort_named-name _ = refl

name_letters : (j : Job) → list_all is_letter (name_of j) ≡ true
unfolding is_letter name_of
name_letters Sum = refl
name_letters _ = refl

-- what stands behind the name and a space
behind_name : Job → List ℕ → List ℕ
behind_name (Move from to amount) r = decimal from ++ 32 ∷ (decimal to ++ 32 ∷ (decimal amount ++ 32 ∷ r))
behind_name (Add account amount) r = decimal account ++ 32 ∷ (decimal amount ++ 32 ∷ r)
behind_name Sum r = r
behind_name (Get account) r = decimal account ++ 32 ∷ r

job_is : (j : Job) (r : List ℕ) → job_text j ++ 32 ∷ r ≡ name_of j ++ 32 ∷ behind_name j r
unfolding name_of behind_name
job_is (Move from to amount) r =
    ap (λ t. codes "move " ++ t) (append_assoc (decimal from) _ (32 ∷ r) ∙ ap (λ t. decimal from ++ 32 ∷ t) (append_assoc (decimal to) _ (32 ∷ r)))
job_is (Add account amount) r = ap (λ t. codes "add " ++ t) (append_assoc (decimal account) _ (32 ∷ r))
job_is Sum r = refl
job_is (Get account) r = refl

sorts_apart : (m n : ℕ) → m < n → m ≡ n → ⊥
sorts_apart m n less same = omega (arith, less, same)

args_same : (j k : Job) (r s : List ℕ) → IsSmallJob j → IsSmallJob k → sort_of j ≡ sort_of k → behind_name j r ≡ behind_name k s → (j ≡ k) × (r ≡ s)
unfolding sort_of behind_name
args_same (Move a b n) (Move c d m) r s hj hk sorts is =
    let from = number_same a c 32 32 _ _ hj.0 hk.0 (omega arith) (omega arith) is in
    let behind : decimal b ++ 32 ∷ (decimal n ++ 32 ∷ r) ≡ decimal d ++ 32 ∷ (decimal m ++ 32 ∷ s) = cc (from.1) in
    let to = number_same b d 32 32 _ _ hj.1 hk.1 (omega arith) (omega arith) behind in
    let last : decimal n ++ 32 ∷ r ≡ decimal m ++ 32 ∷ s = cc (to.1) in
    let amount = number_same n m 32 32 r s hj.2 hk.2 (omega arith) (omega arith) last in
    (ap (λ x. Move x b n) from.0 ∙ ap (λ x. Move c x n) to.0 ∙ ap (λ x. Move c d x) amount.0, cc (amount.1))
args_same (Add a n) (Add c m) r s hj hk sorts is =
    let account = number_same a c 32 32 _ _ hj.0 hk.0 (omega arith) (omega arith) is in
    let last : decimal n ++ 32 ∷ r ≡ decimal m ++ 32 ∷ s = cc (account.1) in
    let amount = number_same n m 32 32 r s hj.1 hk.1 (omega arith) (omega arith) last in
    (ap (λ x. Add x n) account.0 ∙ ap (λ x. Add c x) amount.0, cc (amount.1))
args_same Sum Sum r s hj hk sorts is = (refl, is)
args_same (Get a) (Get c) r s hj hk sorts is =
    let account = number_same a c 32 32 r s hj hk (omega arith) (omega arith) is in
    (ap Get account.0, cc (account.1))
args_same (Move a b n) (Add c m) r s hj hk sorts is = absurd (sorts_apart 0 1 (omega arith) sorts)
args_same (Move a b n) Sum r s hj hk sorts is = absurd (sorts_apart 0 2 (omega arith) sorts)
args_same (Move a b n) (Get c) r s hj hk sorts is = absurd (sorts_apart 0 3 (omega arith) sorts)
args_same (Add a n) (Move c d m) r s hj hk sorts is = absurd (sorts_apart 0 1 (omega arith) (sym sorts))
args_same (Add a n) Sum r s hj hk sorts is = absurd (sorts_apart 1 2 (omega arith) sorts)
args_same (Add a n) (Get c) r s hj hk sorts is = absurd (sorts_apart 1 3 (omega arith) sorts)
args_same Sum (Move c d m) r s hj hk sorts is = absurd (sorts_apart 0 2 (omega arith) (sym sorts))
args_same Sum (Add c m) r s hj hk sorts is = absurd (sorts_apart 1 2 (omega arith) (sym sorts))
args_same Sum (Get c) r s hj hk sorts is = absurd (sorts_apart 2 3 (omega arith) sorts)
args_same (Get a) (Move c d m) r s hj hk sorts is = absurd (sorts_apart 0 3 (omega arith) (sym sorts))
args_same (Get a) (Add c m) r s hj hk sorts is = absurd (sorts_apart 1 3 (omega arith) (sym sorts))
args_same (Get a) Sum r s hj hk sorts is = absurd (sorts_apart 2 3 (omega arith) (sym sorts))

pub job_same : (j k : Job) (r s : List ℕ) → IsSmallJob j → IsSmallJob k → job_text j ++ 32 ∷ r ≡ job_text k ++ 32 ∷ s → (j ≡ k) × (r ≡ s)
job_same j k r s hj hk is =
    let names = words_same (name_of j) (name_of k) 32 32 (behind_name j r) (behind_name k s) (name_letters j) (name_letters k) space_apart space_apart (sym (job_is j r) ∙ is ∙ job_is k s) in
    let sorts = sym (sort_named-name j) ∙ ap sort_named names.0 ∙ sort_named-name k in
    args_same j k r s hj hk sorts (cc (names.1))

-- replies, each with a line feed behind it

letter_first : (c : ℕ) (ds : List ℕ) (r s : List ℕ) → 10 ≤ digit_value c → 0 < length ds → AllDigits 10 ds → ds ++ r ≡ c ∷ s → ⊥
letter_first c [] r s letter some all is = omega arith
letter_first c (d ∷ ds) r s letter some all is = let same : d ≡ c = cc in omega (arith, all.0, letter, ap digit_value same)

amount_or_word : (c n : ℕ) (r s : List ℕ) → 10 ≤ digit_value c → n < 2 ^ 64 → decimal n ++ r ≡ c ∷ s → ⊥
amount_or_word c n r s letter small is =
    let numeral = (decimal_is_IsNumeral n small).0 in
    letter_first c (decimal n) r s letter numeral.0 numeral.1 is

firsts_apart : (a b : ℕ) (r s : List ℕ) → a < b → a ∷ r ≡ b ∷ s → ⊥
firsts_apart a b r s less is = let heads : a ≡ b = cc in omega (arith, less, heads)

pub reply_same : (p q : Reply) (r s : List ℕ) → IsSmallReply p → IsSmallReply q → reply_text p ++ 10 ∷ r ≡ reply_text q ++ 10 ∷ s → (p ≡ q) × (r ≡ s)
reply_same Done Done r s hp hq is = (refl, cc)
reply_same Short Short r s hp hq is = (refl, cc)
reply_same Full Full r s hp hq is = (refl, cc)
reply_same (Amount m) (Amount n) r s hp hq is =
    let same = number_same m n 10 10 r s hp hq (omega arith) (omega arith) is in
    (ap Amount same.0, cc (same.1))
reply_same Done Short r s hp hq is = absurd (firsts_apart 111 115 _ _ (omega arith) is)
reply_same Done Full r s hp hq is = absurd (firsts_apart 102 111 _ _ (omega arith) (sym is))
reply_same Short Done r s hp hq is = absurd (firsts_apart 111 115 _ _ (omega arith) (sym is))
reply_same Short Full r s hp hq is = absurd (firsts_apart 102 115 _ _ (omega arith) (sym is))
reply_same Full Done r s hp hq is = absurd (firsts_apart 102 111 _ _ (omega arith) is)
reply_same Full Short r s hp hq is = absurd (firsts_apart 102 115 _ _ (omega arith) is)
reply_same Done (Amount n) r s hp hq is = absurd (amount_or_word 111 n _ _ (omega arith) hq (sym is))
reply_same Short (Amount n) r s hp hq is = absurd (amount_or_word 115 n _ _ (omega arith) hq (sym is))
reply_same Full (Amount n) r s hp hq is = absurd (amount_or_word 102 n _ _ (omega arith) hq (sym is))
reply_same (Amount m) Done r s hp hq is = absurd (amount_or_word 111 m _ _ (omega arith) hp is)
reply_same (Amount m) Short r s hp hq is = absurd (amount_or_word 115 m _ _ (omega arith) hp is)
reply_same (Amount m) Full r s hp hq is = absurd (amount_or_word 102 m _ _ (omega arith) hp is)

answered_same : (j k : Job) (p q : Reply) (r s : List ℕ) → IsSmallJob j → IsSmallJob k → IsSmallReply p → IsSmallReply q → answered_text j p ++ r ≡ answered_text k q ++ s
    → (j ≡ k) × (p ≡ q) × (r ≡ s)
answered_same j k p q r s hj hk hp hq is =
    let behind = sym (append_assoc (job_text j) (codes " " ++ (reply_text p ++ codes "\n")) r) ∙ is ∙ append_assoc (job_text k) (codes " " ++ (reply_text q ++ codes "\n")) s in
    let job = job_same j k _ _ hj hk behind in
    let last = sym (append_assoc (reply_text p) (codes "\n") r) ∙ job.1 ∙ append_assoc (reply_text q) (codes "\n") s in
    let reply = reply_same p q r s hp hq last in
    (job.0, reply.0, reply.1)

-- numbers, each with a space behind it

spaced_same : (m n : ℕ) (t u r s : List ℕ) → m < 2 ^ 64 → n < 2 ^ 64 → (decimal m ++ 32 ∷ t) ++ r ≡ (decimal n ++ 32 ∷ u) ++ s → (m ≡ n) × (t ++ r ≡ u ++ s)
spaced_same m n t u r s hm hn is =
    let behind = sym (append_assoc (decimal m) (32 ∷ t) r) ∙ is ∙ append_assoc (decimal n) (32 ∷ u) s in
    let number = number_same m n 32 32 (t ++ r) (u ++ s) hm hn (omega arith) (omega arith) behind in
    (number.0, cc (number.1))

ended_same : (m n : ℕ) (r s : List ℕ) → m < 2 ^ 64 → n < 2 ^ 64 → (decimal m ++ 10 ∷ []) ++ r ≡ (decimal n ++ 10 ∷ []) ++ s → (m ≡ n) × (r ≡ s)
ended_same m n r s hm hn is =
    let behind = sym (append_assoc (decimal m) (10 ∷ []) r) ∙ is ∙ append_assoc (decimal n) (10 ∷ []) s in
    let number = number_same m n 10 10 r s hm hn (omega arith) (omega arith) behind in
    (number.0, cc (number.1))

-- the lines

pub entry_same : (m n : ℕ) (e f : Entry) (r s : List ℕ) → m < 2 ^ 64 → n < 2 ^ 64 → IsSmallEntry e → IsSmallEntry f → entry_text m e ++ r ≡ entry_text n f ++ s
    → (m ≡ n) × IsToldEntry e f × (r ≡ s)
entry_same m n e f r s hm hn he hf is =
    let numbers : (decimal m ++ 32 ∷ (decimal e.worker ++ 32 ∷ answered_text e.job e.reply)) ++ r ≡ (decimal n ++ 32 ∷ (decimal f.worker ++ 32 ∷ answered_text f.job f.reply)) ++ s = cc in
    let number = spaced_same m n _ _ r s hm hn numbers in
    let worker = spaced_same e.worker f.worker _ _ r s he.0 hf.0 number.1 in
    let answered = answered_same e.job f.job e.reply f.reply r s he.1 hf.1 he.2 hf.2 worker.1 in
    (number.0, record { worker = worker.0; job = answered.0; reply = answered.1 }, answered.2)

seen_is : (u v : Seen) → u.worker ≡ v.worker → u.number ≡ v.number → u.version ≡ v.version → u.job ≡ v.job → u.reply ≡ v.reply → u ≡ v
seen_is u v worker number version job reply =
    let by_worker : ℕ → Seen = λ x. record { worker = x; number = u.number; version = u.version; job = u.job; reply = u.reply } in
    let by_number : ℕ → Seen = λ x. record { worker = v.worker; number = x; version = u.version; job = u.job; reply = u.reply } in
    let by_version : ℕ → Seen = λ x. record { worker = v.worker; number = v.number; version = x; job = u.job; reply = u.reply } in
    let by_job : Job → Seen = λ x. record { worker = v.worker; number = v.number; version = v.version; job = x; reply = u.reply } in
    let by_reply : Reply → Seen = λ x. record { worker = v.worker; number = v.number; version = v.version; job = v.job; reply = x } in
    ap by_worker worker ∙ ap by_number number ∙ ap by_version version ∙ ap by_job job ∙ ap by_reply reply

pub seen_same : (u v : Seen) (r s : List ℕ) → IsSmallSeen u → IsSmallSeen v → seen_text u ++ r ≡ seen_text v ++ s → (u ≡ v) × (r ≡ s)
seen_same u v r s hu hv is =
    let numbers : (decimal u.worker ++ 32 ∷ (decimal u.number ++ 32 ∷ (decimal u.version ++ 32 ∷ answered_text u.job u.reply))) ++ r ≡ (decimal v.worker ++ 32 ∷ (decimal v.number ++ 32 ∷ (decimal v.version ++ 32 ∷ answered_text v.job v.reply))) ++ s = cc in
    let worker = spaced_same u.worker v.worker _ _ r s hu.0 hv.0 numbers in
    let number = spaced_same u.number v.number _ _ r s hu.1 hv.1 worker.1 in
    let version = spaced_same u.version v.version _ _ r s hu.2 hv.2 number.1 in
    let answered = answered_same u.job v.job u.reply v.reply r s hu.3 hv.3 hu.4 hv.4 version.1 in
    (seen_is u v worker.0 number.0 version.0 answered.0 answered.1, answered.2)

pub balance_same : (a b m n : ℕ) (r s : List ℕ) → a < 2 ^ 64 → b < 2 ^ 64 → m < 2 ^ 64 → n < 2 ^ 64 → balance_text a m ++ r ≡ balance_text b n ++ s → (a ≡ b) × (m ≡ n) × (r ≡ s)
balance_same a b m n r s ha hb hm hn is =
    let numbers : (decimal a ++ 32 ∷ (decimal m ++ 10 ∷ [])) ++ r ≡ (decimal b ++ 32 ∷ (decimal n ++ 10 ∷ [])) ++ s = cc in
    let account = spaced_same a b _ _ r s ha hb numbers in
    let amount = ended_same m n r s hm hn account.1 in
    (account.0, amount.0, amount.1)

pub total_same : (a b m n : ℕ) (r s : List ℕ) → a < 2 ^ 64 → b < 2 ^ 64 → m < 2 ^ 64 → n < 2 ^ 64 → total_text a m ++ r ≡ total_text b n ++ s → (a ≡ b) × (m ≡ n) × (r ≡ s)
total_same a b m n r s ha hb hm hn is =
    let numbers : (decimal a ++ 32 ∷ (decimal m ++ 10 ∷ [])) ++ r ≡ (decimal b ++ 32 ∷ (decimal n ++ 10 ∷ [])) ++ s = cc in
    let entries = spaced_same a b _ _ r s ha hb numbers in
    let reads = ended_same m n r s hm hn entries.1 in
    (entries.0, reads.0, reads.1)
