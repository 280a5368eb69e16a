-- A row that takes a lock finds that its processor does not hold it; and what a row makes of the
-- ledger.
use Rattle.std.proofs.Common.{◌≡◌, ℕ, List, [], ◌∷◌, ◌++◌, Option, Some, None, false, refl, ap, ◌∙◌}
use Rattle.lk_domain.proofs.Names.{State, get_elem?, some, Manner, LockName, Mode, Target, target}
use Rattle.lk_domain.proofs.Names.{Frame, Pc, Verb, if_cases, Course, Met, held_lock, Begins, Calls}
use Rattle.lk_domain.proofs.Names.{Frees, Grip, Mark, Outlook, Running, StandsOn, Takes, Unchanged}
use Rattle.lk_domain.proofs.Names.{acting, grip_of, holds_in, mark, plain, read_at, running}
use Rattle.lk_domain.proofs.Names.{sight_of, terms_of, Ledger, is_first, turned, turned_of, Runs}
use Rattle.lk_domain.proofs.Names.{Plan, View}
use Rattle.lk_domain.proofs.{rows.Sights.IsSeen, rows.Users.IsTrue}
use Rattle.lk_domain.specs.{Ledgers.{opened, closed}, Plays.{turned_on, turned_at}}
use Rattle.lk_domain.proofs.rows.Lands as lands

module _ (k : Plan) {S : Type 0} (s : State S View) (st : Runs k s) (id : ℕ) (v : View)
    (me : get_elem? s.views id ≡ some v) (p : ℕ) (is : v.who.number ≡ Some p) (verb : Verb)
    (l : LockName) (pc : Pc) (asks : Begins k v.calls verb l.index)
    (acts : StandsOn (acting k.mode v.calls verb l.index) verb l pc)
    (unseen : IsSeen pc (target pc acts.frame) (acting k.mode v.calls verb l.index).runs) where
  abbrev c : Calls
  c = acting k.mode v.calls verb l.index

  abbrev f : Frame
  f = acts.frame

  abbrev t : Target
  t = target pc f

  abbrev o : Course
  o = lands.o k s st id v me p is verb l pc asks acts unseen

  -- a row that takes the lock finds that its processor does not hold it
  pub fresh : (y : Manner) → grip_of t o ≡ Takes y → holds_in c.holds (held_lock t f).index ≡ false
  fresh = lands.unheld_before k s st id v me p is verb l pc asks acts unseen

  -- what the row makes of the ledger
  pub turns : (x : Met) → plain x ≡ lands.x k s st id v me p is verb l pc asks acts unseen
      → IsTrue (lands.m k s st id v me p is verb l pc asks acts unseen) pc x → (g : Ledger)
      → turned_of (terms_of k) p c x g
      ≡ turned g (held_lock t f) (grip_of t o) (lands.trail k s st id v me p is verb l pc asks acts unseen x)
  turns x meets true_ g =
      let course_is = lands.course_is k s st id v me p is verb l pc asks acts unseen x meets true_ in
      ap (λ (xs : List Running). turned_on k.mode p (sight_of (terms_of k) p c.runs) xs x g) acts.is
      ∙ (ap (λ q. turned_at k.mode p (sight_of (terms_of k) p c.runs) (running verb f acts.trail) x g q) acts.place
      ∙ (λ i. turned g (held_lock t f) (grip_of t (course_is i)) (acts.trail ++ mark pc x (read_at pc (sight_of (terms_of k) p c.runs)) ∷ [])))

-- a row leaves the share, and the journal where it is
pub record SamePurse (g h : Ledger) : Type 0 where
  pub share : h.share ≡ g.share
  pub out : h.out ≡ g.out

turned_same : (g : Ledger) (l : LockName) (y : Grip) (t : List Mark) → SamePurse g (turned g l y t)
turned_same g l Unchanged t = record { share = refl; out = refl }
turned_same g l (Takes m) t =
    if_cases (SamePurse g) (is_first l) (opened g m t) g (λ _. record { share = refl; out = refl }) (λ _. record { share = refl; out = refl })
turned_same g l Frees t =
    if_cases (SamePurse g) (is_first l) (closed g) g (λ _. record { share = refl; out = refl }) (λ _. record { share = refl; out = refl })

purse_on : (mode : Mode) (p : ℕ) (z : Outlook) (rs : List Running) (x : Met) (g : Ledger)
    → SamePurse g (turned_on mode p z rs x g)
purse_on mode p z [] x g = record { share = refl; out = refl }
purse_on mode p z (r ∷ rs) x g = by r.frame.place
  where
    by : (q : Option Pc) → SamePurse g (turned_at mode p z r x g q)
    by None = record { share = refl; out = refl }
    by (Some c) =
        turned_same g (held_lock (target c r.frame) r.frame)
        (grip_of (target c r.frame) (Rattle.lk_domain.specs.Calls.course mode p z c r.frame x)) (r.trail ++ mark c x (read_at c z) ∷ [])

pub turned_purse : (k : Plan) (p : ℕ) (c : Calls) (x : Met) (g : Ledger) → SamePurse g (turned_of (terms_of k) p c x g)
turned_purse k p c x g = purse_on k.mode p (sight_of (terms_of k) p c.runs) c.frames x g
