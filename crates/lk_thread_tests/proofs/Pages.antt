-- The journal went out and came home as it was, while a balance was stored as it was.
use Rattle.std.proofs.Common.{◌≡◌, ◌<◌, ℕ, List, [], ◌∷◌, Some, None, length, refl, sym, ap, ◌∙◌, subst, arith}
use Rattle.std.proofs.lemmas.List.{append-nil}
use Rattle.std.specs.Prelude.{slice_index, slice_set}
use Rattle.lk_names.specs.Journal.{Replays}
use Rattle.lk_names.specs.declared.ledger.Entry.{Entry}
use Rattle.lk_domain.specs.Keeps.{balance}
use Rattle.lk_domain.specs.Ledgers.{Ledger, Out, loaded, stored, manner_of, trail_of}
use Rattle.lk_domain.specs.Plans.{accounts_of}
use Rattle.lk_domain.specs.Seats.{IsOut, MayCome, CameHome}
use Rattle.lk_domain.specs.declared.ledger.journal.Journal.{Journal}
use Rattle.lk_domain.specs.declared.plan.Plan.{Plan}

-- a list whose first number is set to what it is
same : (ws : List ℕ) (x : ℕ) → 0 < length ws → x ≡ slice_index ws 0 → slice_set ws 0 x ≡ ws
same [] x some is = absurd (omega (arith, some))
same (w ∷ ws) x some is = ap (λ (y : ℕ). y ∷ ws) is

module _ (k : Plan) (g0 g1 g2 : Ledger) (j : Journal) (t : IsOut k g0 j g1) (x : ℕ)
    (loads : g2 ≡ loaded g1 0 x) where
  abbrev pub taken : Out
  taken =
      record {
        list = j.entries.items;
        room = j.entries.room;
        words = t.words;
        manner = manner_of g0.look;
        trail = trail_of g0.look;
      }

  out1 : g1.out ≡ Some taken
  out1 = ap (λ (g : Ledger). g.out) t.ledger

  pub out2 : g2.out ≡ Some taken
  out2 = ap (λ (g : Ledger). g.out) loads ∙ out1

  module _ (g3 : Ledger) (some : 0 < accounts_of k)
      (met : (o : Out) → g1.out ≡ Some o → x ≡ slice_index o.words 0)
      (stores : (o : Out) → g2.out ≡ Some o → g3 ≡ stored g2 o 0 x) where
    abbrev kept : Out
    kept = record taken { words = slice_set t.words 0 x }

    out3 : g3.out ≡ Some kept
    out3 = ap (λ (g : Ledger). g.out) (stores taken out2)

    words_are : slice_set t.words 0 x ≡ t.words
    words_are = same t.words x (let z = t.long in omega (arith, z, some)) (met taken out1)

    pub may_come : (q : ℕ) → MayCome k q g3 j
    may_come q =
        record {
          out = kept;
          more = [];
          has = out3;
          items = sym (append-nil j.entries.items);
          worker = tt;
          few = omega arith;
          replays = subst (Replays k.balances.items) (sym (append-nil j.entries.items)) t.replays;
          words = λ a lt. ap (λ (ws : List ℕ). slice_index ws a) words_are
              ∙ (t.are a lt ∙ ap (λ (js : List Entry). balance k js a) (sym (append-nil j.entries.items)));
          room = refl;
        }

    pub home : (q : ℕ) (g4 : Ledger) → CameHome q g3 j g4 → g4.out ≡ None
    home q g4 came = ap (λ (g : Ledger). g.out) (came kept [] out3 (sym (append-nil j.entries.items)))
