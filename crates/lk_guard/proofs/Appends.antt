-- What a write makes of balances, journal and ledger.
use Rattle.std.proofs.Common.{◌≡◌, ℕ, ◌<◌, ◌≤◌, true, List, [], ◌∷◌, ◌++◌, length, get_or}
use Rattle.std.proofs.Common.{Option, Some, sym, refl, ap, ◌∙◌, subst, arith, eq-eqb}
use Rattle.std.specs.Prelude.{if◌then◌else◌}
use Rattle.std.specs.List.{sum}
use Rattle.lk_names.specs.Jobs.{full, after_job, reply_to, IsAmong}
use Rattle.lk_names.specs.Journal.{balances_after, IsRight, is_write}
use Rattle.lk_names.specs.declared.ledger.Entry.{Entry}
use Rattle.lk_names.specs.declared.ledger.Job.{Job}
use Rattle.lk_names.specs.declared.ledger.Reply.{Reply}
use Rattle.lk_domain.proofs.journals.Loads.{entries_long}
use Rattle.lk_domain.specs.Ledgers.{Ledger, Out, brought, manner_of, trail_of}
use Rattle.lk_domain.specs.Plans.{IsRunningPlan, accounts_of}
use Rattle.lk_domain.specs.Seats.{IsOut, MayCome, CameHome}
use Rattle.lk_domain.specs.declared.ledger.journal.Journal.{Journal}
use Rattle.lk_domain.specs.declared.plan.Plan.{Plan}
use Rattle.lk_guard.specs.Settling.{words_of, out_with, with_words, Stands}
use Rattle.lk_guard.specs.Writes.{entry, after_append, HasAppended}
use Rattle.lk_guard.proofs.Balances.{small, replays_more, balances_more, words_are}

-- where the journal j was taken out
module _ (k : Plan) (lawful : IsRunningPlan k) (g0 g1 : Ledger) (j : Journal) (t : IsOut k g0 j g1) where
  -- the words are its balances
  words_out : words_of g1 ≡ balances_after k.balances.items j.entries.items
  words_out = ap words_of t.ledger ∙ words_are k j.entries.items t.words t.long t.are

  pub stands : Stands (accounts_of k) g1
  stands =
      record {
        out = _;
        has = ap (λ (g : Ledger). g.out) t.ledger;
        shut = ap (λ (g : Ledger). g.look) t.ledger;
        long = ap (λ (g : Ledger). length (words_of g)) t.ledger ∙ t.long;
        small = subst (λ (ws : List ℕ). sum ws < full) (sym words_out) (small k.balances.items j.entries.items lawful.small t.replays);
      }

  -- and the job was done on the words
  module _ (p n : ℕ) (job : Job) (reply : Reply) (g2 : Ledger) (among : IsAmong (accounts_of k) job)
      (writes : is_write job ≡ true) (settled : g2 ≡ with_words g1 (after_job (words_of g1) job))
      (said : reply ≡ reply_to (words_of g1) job) where
    abbrev pub e : Entry
    e = entry p n job reply

    is_right : IsRight (balances_after k.balances.items j.entries.items) e
    is_right =
        record {
          accounts = subst (λ (m : ℕ). IsAmong m job) (sym (entries_long k.balances.items j.entries.items)) among;
          write = writes;
          reply = said ∙ ap (λ (ws : List ℕ). reply_to ws job) words_out;
        }

    -- the place of the journal now
    abbrev pub out_is : Out
    out_is =
        record {
          list = j.entries.items;
          room = j.entries.room;
          words = after_job (words_of g1) job;
          manner = manner_of g0.look;
          trail = trail_of g0.look;
        }

    pub has_out : g2.out ≡ Some out_is
    has_out =
        ap (λ (g : Ledger). g.out) settled
        ∙ ap (λ (o : Option Out). out_with o (after_job (words_of g1) job)) (ap (λ (g : Ledger). g.out) t.ledger)

    -- the journal with its entry may come home
    pub may_come : (q : ℕ) (j' : Journal) → q ≡ p → 1 ≤ g0.share
        → j'.entries ≡ record j.entries { items = j.entries.items ++ e ∷ [] } → MayCome k q g2 j'
    may_come q j' same few pushed =
        record {
          out = out_is;
          more = e ∷ [];
          has = has_out;
          items = ap (λ l. l.items) pushed;
          worker = (sym same, tt);
          few = omega (arith, few, ap (λ (g : Ledger). g.share) settled, ap (λ (g : Ledger). g.share) t.ledger);
          replays = replays_more k.balances.items j.entries.items e t.replays is_right;
          words = λ a lt. ap (λ (ws : List ℕ). get_or (after_job ws job) a 0) words_out
              ∙ ap (λ (ws : List ℕ). get_or ws a 0) (sym (balances_more k.balances.items j.entries.items e));
          room = ap (λ l. l.room) pushed;
        }

    -- and it came home
    pub appended : (q : ℕ) (j' : Journal) (g3 : Ledger) → q ≡ p
        → j'.entries ≡ record j.entries { items = j.entries.items ++ e ∷ [] } → CameHome q g2 j' g3
        → HasAppended k.balances.items p n job reply g0 g3
    appended q j' g3 same pushed came =
        record {
          place = length j.entries.items;
          seen = t.seen;
          state = record { journal = j.entries.items; replays = t.replays; long = refl; right = is_right };
          ledger = came out_is (e ∷ []) has_out (ap (λ l. l.items) pushed)
              ∙ (ap (λ (m : ℕ). brought g2 m out_is (e ∷ [])) same
              ∙ (ap (λ (g : Ledger). brought g p out_is (e ∷ [])) (settled ∙ ap (λ (g : Ledger). with_words g (after_job (words_of g1) job)) t.ledger)
              ∙ ap (λ b. record (after_append g0 (length j.entries.items) e) { own = g0.own ++ (if b then (length j.entries.items, e) ∷ [] else []) }) (eq-eqb p p refl)));
        }
