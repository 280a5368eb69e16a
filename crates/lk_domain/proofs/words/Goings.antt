-- What a step call of a call that goes on does is a use of the word.
use Rattle.std.proofs.Common.{◌≡◌, ◌≢◌, Bool, true, false, refl, sym, ap, ◌∙◌}
use Rattle.lk_domain.proofs.Names.{LockName, Pc, G2, G7, G9, N1, P0, P1, P2, P3, P4, V1, Verb, Lock}
use Rattle.lk_domain.proofs.Names.{Read, Try, Write, Calls, AllHome, ActsIn, ActsOn, claims_by}
use Rattle.lk_domain.proofs.Names.{clears_by, frees_by, is_watch, looks_by, pends_by, queues_up}
use Rattle.lk_domain.proofs.Names.{stakes_by, takes_by, Claims, Clears, Looks, Pends, Stakes, View}
use Rattle.lk_domain.proofs.{Acting.{acting_now, is_first_of}, turns.Courses.free_kind}
use Rattle.lk_domain.proofs.words.Onward.{watch_later, take_later, free_later, pend_later}
use Rattle.lk_domain.proofs.words.Onward.{clear_later, claim_later, stake_later, wait_last}
use Rattle.lk_domain.specs.{Uses.{uses, UsesWord}, declared.locks.moves.WordUse.WordUse}
use Rattle.lk_domain.specs.declared.locks.moves.WordUse.TheVariants.{Takes, Frees}

module _ (how : WordUse) (w : View) (v : Verb) (n : LockName) (kind : Pc → Bool) (acts : ActsOn kind w v n) where
  use_at : is_first_of acts.row v ≡ false → uses how acts.row ≡ true → UsesWord how n v w
  use_at later is =
      record {
        row = acts.row;
        is = is;
        stands = record {
          frame = acts.stands.frame;
          trail = acts.stands.trail;
          rest = acts.stands.rest;
          is = ap (λ (z : Calls). z.frames) (sym (acting_now w.who.plan.mode w.calls v n acts.row acts.stands later)) ∙ acts.stands.is;
          place = acts.stands.place;
          lock = acts.stands.lock;
        };
      }

watch_use : (c : Pc) → is_watch c ≡ true → uses Looks c ≡ true
watch_use V1 h = refl
watch_use P0 h = refl
watch_use P3 h = refl
watch_use G2 h = refl
watch_use G7 h = refl
watch_use N1 h = refl
watch_use _ h = cc h

pend_use : (v : Verb) (c : Pc) → pends_by v c ≡ true → uses Pends c ≡ true
pend_use v P1 h = refl
pend_use v _ h = cc h

clear_use : (v : Verb) (c : Pc) → clears_by v c ≡ true → uses Clears c ≡ true
clear_use v P2 h = refl
clear_use v _ h = cc h

claim_use : (v : Verb) (c : Pc) → claims_by v c ≡ true → uses Claims c ≡ true
claim_use v P4 h = refl
claim_use v _ h = cc h

stake_use : (v : Verb) (c : Pc) → stakes_by v c ≡ true → uses Stakes c ≡ true
stake_use v G9 h = refl
stake_use v _ h = cc h

pub at_look : (w : View) (v : Verb) (n : LockName) → v ≢ Try → ActsIn (looks_by v) w v n → UsesWord Looks n v w
at_look w Lock n ne a = use_at Looks w Lock n (looks_by Lock) a.acts (watch_later a.acts.row Lock a.acts.is) (watch_use a.acts.row a.acts.is)
at_look w Read n ne a = use_at Looks w Read n (looks_by Read) a.acts (watch_later a.acts.row Read a.acts.is) (watch_use a.acts.row a.acts.is)
at_look w Write n ne a = use_at Looks w Write n (looks_by Write) a.acts (watch_later a.acts.row Write a.acts.is) (watch_use a.acts.row a.acts.is)
at_look w Try n ne a = absurd (ne refl)
at_look w _ n ne a = cc a.acts.is

pub at_take : (w : View) (v : Verb) (n : LockName) → v ≢ Lock → v ≢ Try → ActsIn (takes_by v) w v n → UsesWord Takes n v w
at_take w Read n nl nt a = use_at Takes w Read n (takes_by Read) a.acts (take_later Read a.acts.row refl a.acts.is) a.acts.is
at_take w Write n nl nt a = use_at Takes w Write n (takes_by Write) a.acts (take_later Write a.acts.row refl a.acts.is) a.acts.is
at_take w Lock n nl nt a = absurd (nl refl)
at_take w Try n nl nt a = absurd (nt refl)
at_take w _ n nl nt a = cc a.acts.is

pub at_free : (w : View) (v : Verb) (n : LockName) → queues_up v ≡ true → ActsIn (frees_by v) w v n → UsesWord Frees n v w
at_free w v n t a = use_at Frees w v n (frees_by v) a.acts (free_later v a.acts.row t a.acts.is) (free_kind v a.acts.row a.acts.is).0

pub at_pend : (w : View) (v : Verb) (n : LockName) → ActsIn (pends_by v) w v n → UsesWord Pends n v w
at_pend w v n a = use_at Pends w v n (pends_by v) a.acts (pend_later v a.acts.row a.acts.is) (pend_use v a.acts.row a.acts.is)

pub at_clear : (w : View) (v : Verb) (n : LockName) → ActsIn (clears_by v) w v n → UsesWord Clears n v w
at_clear w v n a = use_at Clears w v n (clears_by v) a.acts (clear_later v a.acts.row a.acts.is) (clear_use v a.acts.row a.acts.is)

pub at_claim : (w : View) (v : Verb) (n : LockName) → ActsIn (claims_by v) w v n → UsesWord Claims n v w
at_claim w v n a = use_at Claims w v n (claims_by v) a.acts (claim_later v a.acts.row a.acts.is) (claim_use v a.acts.row a.acts.is)

pub at_stake : (w : View) (v : Verb) (n : LockName) → ActsIn (stakes_by v) w v n → UsesWord Stakes n v w
at_stake w v n a = use_at Stakes w v n (stakes_by v) a.acts (stake_later v a.acts.row a.acts.is) (stake_use v a.acts.row a.acts.is)

-- the wait lock guards nothing
pub wait_home : (w : View) (v : Verb) (n : LockName) → queues_up v ≡ true → n.wait ≡ queues_up v → AllHome n w
wait_home w v n t inside =
    record {
      journal = λ first. absurd (wait_last v n t inside first);
      value = λ plain. absurd (let no : true ≡ false = sym t ∙ (sym inside ∙ plain) in let z : ⊥ = cc no in z);
    }
