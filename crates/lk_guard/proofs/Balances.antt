-- Balances after entries, and sums of what was loaded of them.
use Rattle.std.proofs.Common.{◌≡◌, ℕ, zero, suc, ◌+◌, ◌<◌, ◌≤◌, false, List, [], ◌∷◌, ◌++◌, map, length}
use Rattle.std.proofs.Common.{take, get_or, sym, refl, ap, ◌∙◌, arith}
use Rattle.std.proofs.Math.Seq.{take-length}
use Rattle.std.proofs.lemmas.List.{ext_get_or}
use Rattle.std.proofs.lemmas.List.Sums.{sum_by_more, sum_by-take-le}
use Rattle.std.specs.List.{sum}
use Rattle.lk_names.proofs.Sums.{small_after}
use Rattle.lk_names.specs.Jobs.{full, after_job, reply_to}
use Rattle.lk_names.specs.Journal.{balances_after, Replays, IsRight, is_write}
use Rattle.lk_names.specs.declared.ledger.Entry.{Entry}
use Rattle.lk_names.specs.declared.ledger.Job.{Job}
use Rattle.lk_names.specs.declared.ledger.Job.TheVariants.{Move, Add, Sum, Get}
use Rattle.lk_names.specs.declared.ledger.Reply.{Reply}
use Rattle.lk_names.specs.declared.ledger.Reply.TheVariants.{Amount}
use Rattle.lk_domain.proofs.journals.Loads.{entries_long}
use Rattle.lk_domain.specs.Keeps.{balance, AreLoaded}
use Rattle.lk_domain.specs.Plans.{accounts_of}
use Rattle.lk_domain.specs.Views.{total}
use Rattle.lk_domain.specs.declared.plan.Plan.{Plan}
use Rattle.lk_guard.specs.Reads.{account_of, amount_of, below, Answers}

-- the sum stays below the limit
pub small : (opening : List ℕ) (js : List Entry) → sum opening < full → Replays opening js
    → sum (balances_after opening js) < full
small opening [] less r = less
small opening (e ∷ js) less r =
    small (after_job opening e.job) js (small_after opening e.job r.0.accounts less) r.1

-- one entry more
pub replays_more : (opening : List ℕ) (js : List Entry) (e : Entry) → Replays opening js
    → IsRight (balances_after opening js) e → Replays opening (js ++ e ∷ [])
replays_more opening [] e r is = (is, tt)
replays_more opening (x ∷ xs) e r is = (r.0, replays_more (after_job opening x.job) xs e r.1 is)

pub balances_more : (opening : List ℕ) (js : List Entry) (e : Entry)
    → balances_after opening (js ++ e ∷ []) ≡ after_job (balances_after opening js) e.job
balances_more opening [] e = refl
balances_more opening (x ∷ xs) e = balances_more (after_job opening x.job) xs e

-- words that are the balances one by one are the balances
pub words_are : (k : Plan) (js : List Entry) (ws : List ℕ) → length ws ≡ accounts_of k
    → ((a : ℕ) → a < accounts_of k → get_or ws a 0 ≡ balance k js a)
    → ws ≡ balances_after k.balances.items js
words_are k js ws long are =
    let bs = balances_after k.balances.items js in
    ext_get_or 0 ws bs (long ∙ sym (entries_long k.balances.items js)) (λ a lt. are a (omega (arith, long)))

-- the sum of loads of the accounts below n is the sum of their balances
pub loads_sum : (k : Plan) (js : List Entry) (n : ℕ) (loads : List (ℕ × ℕ)) → AreLoaded k js loads
    → map account_of loads ≡ below n → n ≤ accounts_of k
    → total amount_of loads ≡ sum (take n (balances_after k.balances.items js))
loads_sum k js zero [] are is le = refl
loads_sum k js zero (x ∷ xs) are is le = absurd (cc is)
loads_sum k js (suc n) [] are is le = absurd (cc is)
loads_sum k js (suc n) (x ∷ xs) are is le =
    let bs = balances_after k.balances.items js in
    let first : x.0 ≡ n = cc is in
    let rest : map account_of xs ≡ below n = cc is in
    omega (
      arith,
      are.0,
      ap (λ a. get_or bs a 0) first,
      loads_sum k js n xs are.1 rest (omega arith),
      sum_by_more (λ y. y) bs n 0 (let z = entries_long k.balances.items js in omega arith),
      ap (λ i. sum (take i bs)) (let e : suc n ≡ n + 1 = omega arith in e),
    )

-- and so it is below the limit
pub loads_small : (k : Plan) (js : List Entry) (n : ℕ) (loads : List (ℕ × ℕ))
    → sum k.balances.items < full → Replays k.balances.items js → AreLoaded k js loads
    → map account_of loads ≡ below n → n ≤ accounts_of k → total amount_of loads < full
loads_small k js n loads less r are is le =
    omega (
      arith,
      loads_sum k js n loads are is le,
      sum_by-take-le (λ y. y) (balances_after k.balances.items js) n,
      small k.balances.items js less r,
    )

-- the reply of loads of what the job asks is that of the job on the balances
pub right_reply : (k : Plan) (js : List Entry) (job : Job) (reply : Reply) (loads : List (ℕ × ℕ))
    → AreLoaded k js loads → Answers (accounts_of k) job reply loads → is_write job ≡ false
    → reply ≡ reply_to (balances_after k.balances.items js) job
right_reply k js (Move from to amount) reply loads are a reads = absurd (cc reads)
right_reply k js (Add account amount) reply loads are a reads = absurd (cc reads)
right_reply k js Sum reply loads are a reads =
    let bs = balances_after k.balances.items js in
    a.right ∙ ap Amount (loads_sum k js (accounts_of k) loads are a.are (omega arith) ∙ ap sum (whole bs (accounts_of k) (entries_long k.balances.items js)))
  where
    whole : (bs : List ℕ) (n : ℕ) → length bs ≡ n → take n bs ≡ bs
    whole bs n e = ap (λ i. take i bs) (sym e) ∙ take-length bs
right_reply k js (Get account) reply [] are a reads = absurd (cc a.are)
right_reply k js (Get account) reply (x ∷ []) are a reads =
    let here : x.0 ≡ account = cc a.are in
    a.right ∙ ap Amount (omega (arith, are.0, ap (balance k js) here))
right_reply k js (Get account) reply (x ∷ y ∷ ys) are a reads = absurd (cc a.are)
