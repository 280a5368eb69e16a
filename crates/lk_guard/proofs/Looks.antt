-- What the loads of one look say.
use Rattle.std.proofs.Common.{◌≡◌, ℕ, suc, ◌+◌, ◌<◌, ◌≤◌, false, List, [], ◌∷◌, ◌++◌, map}
use Rattle.std.proofs.Common.{Option, Some, sym, refl, ap, ◌∙◌, subst, arith}
use Rattle.std.proofs.lemmas.List.{append-nil}
use Rattle.std.specs.List.{sum}
use Rattle.atomic_table.specs.declared.shared.Seat.{Seat}
use Rattle.lk_names.specs.Jobs.{full}
use Rattle.lk_names.specs.Journal.{Replays, is_write}
use Rattle.lk_names.specs.declared.ledger.Job.{Job}
use Rattle.lk_names.specs.declared.ledger.Reply.{Reply}
use Rattle.lk_domain.specs.Keeps.{IsOpen, IsVersion, Slot}
use Rattle.lk_domain.specs.Calls.{Mark}
use Rattle.lk_domain.specs.Ledgers.{Ledger, Look, loaded, sighted, look_sees, new_look, opened, closed}
use Rattle.lk_domain.specs.Plans.{IsRunningPlan, accounts_of}
use Rattle.lk_domain.specs.Plays.{OneState}
use Rattle.lk_domain.specs.Seated.{IsKept}
use Rattle.lk_domain.specs.Who.{Who}
use Rattle.lk_domain.specs.Views.{IsNumbered, own_number, total}
use Rattle.lk_domain.specs.declared.plan.Plan.{Plan}
use Rattle.lk_domain.specs.declared.view.View.{View}
use Rattle.lk_guard.specs.Guards.{Guard, reads_as, IsToRead}
use Rattle.lk_run.specs.Polls.{IsPolled}
use Rattle.lk_guard.specs.Reads.{account_of, amount_of, below, Answers, ReadsAt, HasRead}
use Rattle.lk_guard.specs.Reads.{all_loaded, HasLooked, HasSummed, IsFreshLook}
use Rattle.lk_guard.proofs.Balances.{loads_small, right_reply}

-- the look k after these loads
abbrev with_loads : Look → List (ℕ × ℕ) → Look
with_loads k loads = record k { loads = loads ++ k.loads }

-- and after a load of the version before them
abbrev pub with_sight : Look → ℕ → Look
with_sight k v = record k { version = Some v }

-- what a processor knows after loads in the look k
pub loads_whole : (g : Ledger) (k : Look) (loads : List (ℕ × ℕ)) → g.look ≡ Some k
    → all_loaded g loads ≡ record g { look = Some (with_loads k loads) }
loads_whole g k [] e = ap (λ (o : Option Look). record g { look = o }) e
loads_whole g k (x ∷ xs) e = ap (λ (h : Ledger). loaded h x.0 x.1) (loads_whole g k xs e)

-- where none was loaded before
pub loads_fresh : (g : Ledger) (k : Look) (loads : List (ℕ × ℕ)) → g.look ≡ Some k → k.loads ≡ []
    → all_loaded g loads ≡ record g { look = Some (record k { loads = loads }) }
loads_fresh g k loads e none =
    loads_whole g k loads e
    ∙ ap (λ (xs : List (ℕ × ℕ)). record g { look = Some (record k { loads = xs }) })
    (ap (λ (xs : List (ℕ × ℕ)). loads ++ xs) none ∙ append-nil loads)

-- the loads of an open look are of the one state
module _ (plan : Plan) (lawful : IsRunningPlan plan) (b : View) (of : b.who.plan ≡ plan) (one : OneState b) (k : Look)
    (has : b.ledger.look ≡ Some k) where
  open_is : IsOpen plan one.journal b.calls (Some k)
  open_is =
      subst (λ (q : Plan). IsOpen q one.journal b.calls (Some k)) of
      (subst (IsOpen b.who.plan one.journal b.calls) has one.looking)

  replays_is : Replays plan.balances.items one.journal
  replays_is = subst (λ (q : Plan). Replays q.balances.items one.journal) of one.replays

  -- their sum is below the limit
  pub sum_small : (n : ℕ) → map account_of k.loads ≡ below n → n ≤ accounts_of plan
      → total amount_of k.loads < full
  sum_small n are le =
      loads_small plan one.journal n k.loads lawful.small replays_is open_is.1.loads are le

  -- and the reply of them is right
  pub reads_at : (p v : ℕ) (job : Job) (reply : Reply) → b.who.number ≡ Some p → k.version ≡ Some v
      → Answers (accounts_of plan) job reply k.loads → is_write job ≡ false
      → ReadsAt plan.balances.items p v job reply b.ledger.own
  reads_at p v job reply numbered version answers reads =
      record {
        journal = one.journal;
        replays = replays_is;
        version = subst (IsVersion one.journal) version open_is.1.version;
        right = right_reply plan one.journal job reply k.loads open_is.1.loads answers reads;
        all = one.own p numbered;
      }

-- one balance more was summed
pub summed_more : (n sum x : ℕ) (g h h' : Ledger) → HasSummed n sum g h → h' ≡ loaded h n x
    → HasSummed (n + 1) (sum + x) g h'
summed_more n sum x g h h' s e =
    record {
      loads = (n, x) ∷ s.loads;
      are = (λ i. n ∷ s.are i) ∙ ap below (let z : suc n ≡ n + 1 = omega arith in z);
      sum_is = omega (arith, s.sum_is);
      ledger = e ∙ ap (λ (l : Ledger). loaded l n x) s.ledger;
    }

pub summed_small : (plan : Plan) → IsRunningPlan plan → (b : View) → b.who.plan ≡ plan → OneState b → (n sum : ℕ)
    (g : Ledger) → IsFreshLook g → HasSummed n sum g b.ledger → n ≤ accounts_of plan → sum < full
summed_small plan lawful b of one n sum g f s le =
    let whole = s.ledger ∙ loads_fresh g f.look s.loads f.has f.none in
    omega (
      arith,
      s.sum_is,
      sum_small plan lawful b of one (record f.look { loads = s.loads }) (ap (λ (h : Ledger). h.look) whole) n s.are le,
    )

-- two steps keep what each keeps
pub both_keep : (a b c : Seat Slot View) → IsKept a b → IsKept b c → IsKept a c
both_keep a b c h k = record { table = k.table ∙ h.table; id = k.id ∙ h.id; who = k.who ∙ h.who; calls = k.calls ∙ h.calls }

-- and the number
pub numbered_as : (a b : Seat Slot View) → IsNumbered a.me.0 → IsKept a b
    → b.me.0.who.number ≡ Some (own_number a.me.0.who.number)
numbered_as a b number h = ap (λ (w : Who). w.number) h.who ∙ (number.1 ∙ ap Some (sym (ap own_number number.1)))

-- the version and then these balances were loaded
pub has_looked : (plan : Plan) → IsRunningPlan plan → (b : View) → b.who.plan ≡ plan → OneState b → (p : ℕ)
    → b.who.number ≡ Some p → (g : Ledger) (v : ℕ) (job : Job) (reply : Reply) (loads : List (ℕ × ℕ))
    → b.ledger ≡ all_loaded (sighted g v) loads → IsFreshLook g
    → Answers (accounts_of plan) job reply loads → is_write job ≡ false → g.seen ≤ v
    → HasLooked plan.balances.items p v job reply g b.ledger
has_looked plan lawful b of one p numbered g v job reply loads is f answers reads seen =
    let whole = is ∙ loads_fresh (sighted g v) (with_sight f.look v) loads (ap (λ (o : Option Look). look_sees o v) f.has) f.none in
    let k : Look = record (with_sight f.look v) { loads = loads } in
    let state = reads_at plan lawful b of one k (ap (λ (h : Ledger). h.look) whole) p v job reply numbered refl answers reads in
    record {
      loads = loads;
      answers = answers;
      ledger = is;
      seen = seen;
      state = subst (ReadsAt plan.balances.items p v job reply) (ap (λ (h : Ledger). h.own) whole) state;
    }

-- a read in a hold of its own
module _ (h : Guard) (p v : ℕ) (job : Job) (reply : Reply) (g0 g1 g2 : Ledger) (trail : List Mark)
    (begins : g1 ≡ opened g0 (reads_as h.kind) trail) (looks : HasLooked h.opening p v job reply g1 g2)
  where
    abbrev look : Look
    look = record (new_look (reads_as h.kind) trail) { version = Some v; loads = looks.loads }

    -- before the look ends
    open_look : g2 ≡ record g0 { seen = v; look = Some look }
    open_look =
        looks.ledger
        ∙ (loads_fresh (sighted g1 v) (with_sight (new_look (reads_as h.kind) trail) v) looks.loads
        (ap (λ (g : Ledger). look_sees g.look v) begins) refl
        ∙ ap (λ (g : Ledger). record g { seen = v; look = Some look }) begins)

    pub out_kept : g2.out ≡ g0.out
    out_kept = ap (λ (g : Ledger). g.out) open_look

    pub has_read : (g3 : Ledger) → g3 ≡ closed g2
        → IsToRead h p (new_look (reads_as h.kind) trail) → {before after : Option ℕ} → IsPolled trail before after
        → HasRead h p v job reply g0 g3 before after
    has_read g3 ends taken polled =
        record {
          look = look;
          read = record {
            taken = record { manner = taken.manner; path = taken.path; ends = taken.ends };
            version = refl;
            answers = looks.answers;
            seen = subst (λ (g : Ledger). g.seen ≤ v) begins looks.seen;
            state = subst (λ (g : Ledger). ReadsAt h.opening p v job reply g.own) begins looks.state;
          };
          ledger = ends ∙ ap closed open_look;
          polled = polled;
        }
