-- What an exchange of a lock's whole word asks, which is tried again where it fails.
use Rattle.std.proofs.Common.{◌≡◌, ℕ, zero, suc, ◌<◌, List, [], ◌∷◌, get_or, set, Bool, true, false}
use Rattle.std.proofs.Common.{eqb, eq-eqb, ne_eqb, refl, sym, ap, ◌∙◌, subst}
use Rattle.std.specs.Prelude.{unwrap_or}
use Rattle.lk_domain.proofs.Names.{Allows, Me, State, Step, keeps, get_elem?, dite, some}
use Rattle.lk_domain.proofs.Names.{ℕ_discrete, either, IsPackable, Fields, LockName, Mode, target}
use Rattle.lk_domain.proofs.Names.{Frame, Pc, Verb, Word, Begins, Calls, StandsOn, acting, AllHome}
use Rattle.lk_domain.proofs.Names.{Slot, layout_in, locks_of, ActsOn, made, Stand, IsNumbered}
use Rattle.lk_domain.proofs.Names.{word_at, Plan, View}
use Rattle.atomic_table.proofs.Lists.{set_again}
use Rattle.lk_word.specs.SpinWord.{packed}
use Rattle.lk_domain.proofs.{Acting.{is_first_of, acting_now}, words.LockPlays.MayFree}
use Rattle.lk_domain.proofs.words.OnWords.{OnWord, word_stores, KnownHere}
use Rattle.lk_domain.specs.Plays.{IsWord, Swaps, rowed}
use Rattle.lk_domain.proofs.words.LockPlays as plays

pub set_self : (ws : List ℕ) (i : ℕ) → set ws i (get_or ws i 0) ≡ ws
set_self [] i = refl
set_self (x ∷ xs) zero = refl
set_self (x ∷ xs) (suc i) = ap (λ ys. x ∷ ys) (set_self xs i)

-- nothing has changed where a step writes what it meets
pub stands : (k : Plan) (s : State Slot View) → Stand k s → (id : ℕ) (v : View)
    → get_elem? s.views id ≡ some v → (i n : ℕ) → n ≡ get_or s.words i 0
    → Stand k (record { words = set s.words i n; homes = s.homes; views = set s.views id v })
stands k s both id v me i n is =
    subst (Stand k) (sym (λ j. record {
      words = ((ap (set s.words i) is ∙ set_self s.words i) j);
      homes = s.homes;
      views = set_again s.views id v me j;
    })) both

module _ (k : Plan) (slots id : ℕ) (m : Me Slot View) (number : IsNumbered m.0) (verb : Verb)
    (l : LockName) (near : l.index < locks_of k) (pc : Pc)
    (acts : StandsOn (acting m.0.who.plan.mode m.0.calls verb l.index) verb l pc)
    (asks : Begins m.0.who.plan m.0.calls verb l.index) (word : (fr : Frame) → OnWord (target pc fr))
    (home : MayFree pc → AllHome l m.0)
    (later : is_first_of pc verb ≡ false) where
  pub swaps : (st : Step Slot) (old new : ℕ) → st.first ≡ old
      → ((mode : Mode) (y : Fields) → IsPackable (layout_in k) y → KnownHere pc acts.frame y → packed (layout_in k) y ≡ old
      → new ≡ packed (layout_in k) (unwrap_or (word_stores mode pc acts.frame (target pc acts.frame) y) y))
      → Allows (Stand k) slots id m (word_at l) (λ n. either (eqb n old) new n) (Swaps st m)
  swaps st old new first writes s both long me small =
      let n : ℕ = get_or s.words (word_at l) 0 in
      let y : Fields = plays.y k slots id m number verb l near pc acts asks word home s both me in
      let fits = plays.y_packs k slots id m number verb l near pc acts asks word home s both me in
      let tail = plays.y_tail k slots id m number verb l near pc acts asks word home s both me in
      let is : n ≡ packed (layout_in k) y = plays.y_is k slots id m number verb l near pc acts asks word home s both me in
      let packs = plays.y_packable k slots id m number verb l near pc acts asks word home s both me in
      let named = plays.y_word k slots id m number verb l near pc acts asks word home s both me in
      let found : IsWord m.0.who.plan n =
      record { found = y; packs = packs; tail = tail; word = named } in
      let u : View = made m.0 verb l.index (Word y) in
      dite (ℕ_discrete n old)
      (λ hit. (
        u,
        keeps,
        tt,
        subst (λ (i : ℕ). Stand k (record { words = set s.words (word_at l) i; homes = s.homes; views = set s.views id u }))
            (sym (ap (λ b. either b new n) (eq-eqb n old hit)))
            (record {
              runs = plays.rows k slots id m number verb l near pc acts asks word home s both me new
                  (λ mode known. writes mode y fits known (sym is ∙ hit));
              keeps = plays.keeps_on k slots id m number verb l near pc acts asks word home s both me new;
            }),
        record {
          made = λ _. record {
            found = y;
            packs = packs;
            tail = tail;
            word = named;
            seat = ap (λ (c : Calls). (rowed m.0 c (Word y), m.1)) (acting_now m.0.who.plan.mode m.0.calls verb l pc acts later);
          };
          stands = λ ne. absurd (ne (hit ∙ sym first));
          word = found;
        },
      ))
      (λ miss. (
        m.0,
        keeps,
        tt,
        stands k s both id m.0 me (word_at l) (either (eqb n old) new n) (ap (λ b. either b new n) (ne_eqb n old miss)),
        record { made = λ hit. absurd (miss (hit ∙ first)); stands = λ _. refl; word = found },
      ))

-- what the call asks, in which the word is named by its place
module _ (k plan : Plan) (slots id : ℕ) (m : Me Slot View) (number : IsNumbered m.0) (verb : Verb)
    (l : LockName) (i : ℕ) (st : Step Slot) (same : k ≡ plan) (near : l.index < locks_of plan)
    (at : i ≡ word_at l) where
  pub asks_swap : (kind : Pc → Bool) (acts : ActsOn kind m.0 verb l)
      → ((pc : Pc) → kind pc ≡ true → (fr : Frame) → OnWord (target pc fr))
      → (MayFree acts.row → AllHome l m.0)
      → is_first_of acts.row verb ≡ false → (old new : ℕ) → st.first ≡ old
      → ((mode : Mode) (y : Fields) → IsPackable (layout_in plan) y → KnownHere acts.row acts.stands.frame y → packed (layout_in plan) y ≡ old
      → new ≡ packed (layout_in plan) (unwrap_or (word_stores mode acts.row acts.stands.frame (target acts.row acts.stands.frame) y) y))
      → Allows (Stand k) slots id m i (λ n. either (eqb n old) new n) (Swaps st m)
  asks_swap kind acts on_word home later old new first writes =
      subst (λ (x : ℕ). Allows (Stand k) slots id m x (λ n. either (eqb n old) new n) (Swaps st m)) (sym at)
      (swaps k slots id m number verb l (subst (λ (x : Plan). l.index < locks_of x) (sym same) near) acts.row acts.stands acts.begins
      (on_word acts.row acts.is) home later st old new first
      (subst (λ (x : Plan). (mode : Mode) (y : Fields) → IsPackable (layout_in x) y → KnownHere acts.row acts.stands.frame y → packed (layout_in x) y ≡ old
      → new ≡ packed (layout_in x) (unwrap_or (word_stores mode acts.row acts.stands.frame (target acts.row acts.stands.frame) y) y)) (sym same) writes))
