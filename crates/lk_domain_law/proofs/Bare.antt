-- Whether a call of a domain polls without a node; and where none does, who comes to a queue does so with one.
use Rattle.std.proofs.Common.{◌≡◌, ◌⊎◌, inl, inr, ℕ, zero, suc, ◌<◌, ◌≤◌, List, [], ◌∷◌, Option, Some, None, Bool}
use Rattle.std.proofs.Common.{true, false, refl, sym, ap, ◌∙◌, subst, arith}
use Rattle.std.proofs.lemmas.Bool.{cases_Bool, cases_eq, cases_lt}
use mathlib.Core.Option.{some, some-injective, some-ne-none}
use lib.ListN.{get_elem?}
use Rattle.atomic_table.specs.Table.{State}
use Rattle.lk_names.specs.declared.names.Waiter.{Waiter}
use Rattle.lk_names.specs.declared.names.LockName.{LockName}
use Rattle.lk_rows.specs.declared.parts.Frame.{Frame}
use Rattle.lk_rows.specs.declared.parts.Pc.{Pc}
use Rattle.lk_law.specs.World.{World}
use Rattle.lk_waits.specs.Attended.{is_bare, IsDeep}
use Rattle.lk_waits.specs.Aside.{IsFollowedAside, IsFollowedAsideBy}
use Rattle.lk_waits.specs.Order.{SomebodyComes, SomebodyComesBy, comes_by, IsFollowed, IsFollowedBy}
use Rattle.lk_domain.specs.Calls.{Calls, no_calls, frame_in}
use Rattle.lk_domain.specs.Keeps.{Slot}
use Rattle.lk_domain.specs.Runs.{Runs, waiter}
use Rattle.lk_domain.specs.declared.plan.Plan.{Plan}
use Rattle.lk_domain.specs.declared.view.View.{View}
use Rattle.lk_domain.proofs.seats.Owners.{framed}
use Rattle.lk_domain_law.specs.GoingOn.{SomebodyIsBare}
use Rattle.lk_domain_law.proofs.Newest.{none_some}

abbrev bare_at : Option Pc → Bool
bare_at None = false
bare_at (Some c) = is_bare c

abbrev bare_frame : Option Frame → Bool
bare_frame None = false
bare_frame (Some f) = bare_at f.place

-- a frame at such a row
record Bare (o : Option Frame) : Type 0 where
  frame : Frame
  row : Pc
  live : o ≡ Some frame
  place : frame.place ≡ Some row
  bare : is_bare row ≡ true

bare_of : (o : Option Frame) → bare_frame o ≡ true → Bare o
bare_of None h = cc h
bare_of (Some f) h = by f.place refl
  where
    by : (p : Option Pc) → f.place ≡ p → Bare (Some f)
    by None e = absurd (let z : bare_at f.place ≡ false = ap bare_at e in cc (z, h))
    by (Some c) e = record { frame = f; row = c; live = refl; place = e; bare = sym (ap bare_at e) ∙ h }

-- a search below a bound
find : (g : ℕ → Bool) (n : ℕ) → ((d : ℕ) × (g d ≡ true)) ⊎ ((d : ℕ) → d < n → g d ≡ false)
find g zero = inr (λ d lt. absurd (omega (arith, lt)))
find g (suc n) = elim (cases_Bool (g n)) [
  | inl e ↦ inl (n, e)
  | inr e ↦ elim (find g n) [
    | inl h ↦ inl h
    | inr none ↦ inr (λ d lt. elim (cases_eq d n) [
      | inl q ↦ ap g q ∙ e
      | inr ne ↦ none d (omega (arith, lt, ne))
    ])
  ]
]

-- a search among the seats
abbrev NoneIn : List View → Type 0
NoneIn vs = (id : ℕ) (v : View) → get_elem? vs id ≡ some v → (d : ℕ) → d < 6 → bare_frame (frame_in v.calls.frames d) ≡ false

record Found (vs : List View) : Type 0 where
  id : ℕ
  view_is : View
  at : get_elem? vs id ≡ some view_is
  ctx : ℕ
  found : bare_frame (frame_in view_is.calls.frames ctx) ≡ true

search_in : (vs : List View) → Found vs ⊎ NoneIn vs
search_in [] = inr (λ id v at. absurd (some-ne-none v (sym at)))
search_in (x ∷ xs) = elim (find (λ d. bare_frame (frame_in x.calls.frames d)) 6) [
  | inl h ↦ inl (record { id = 0; view_is = x; at = refl; ctx = h.0; found = h.1 })
  | inr none ↦ elim (search_in xs) [
    | inl t ↦ inl (record { id = suc t.id; view_is = t.view_is; at = t.at; ctx = t.ctx; found = t.found })
    | inr off ↦ inr (both none off)
  ]
]
  where
    both : ((d : ℕ) → d < 6 → bare_frame (frame_in x.calls.frames d) ≡ false) → NoneIn xs → NoneIn (x ∷ xs)
    both none off zero v at d lt = subst (λ (y : View). bare_frame (frame_in y.calls.frames d) ≡ false) (some-injective x v at) (none d lt)
    both none off (suc id) v at d lt = off id v at d lt

-- nobody polls without a node
abbrev pub IsNoded : World → Type 0
IsNoded m = (w : Waiter) (f : Frame) (c : Pc) → m.frame w ≡ Some f → f.place ≡ Some c → is_bare c ≡ false

pub noded_comes : (m : World) → IsNoded m → (l : LockName) → SomebodyComesBy true m l → SomebodyComes m l
noded_comes m none l x =
    record {
      by = x.by;
      frame = x.frame;
      place = x.place;
      live = x.live;
      at = x.at;
      lock = x.lock;
      comes = noded x.place (none x.by x.frame x.place x.live x.at) x.comes;
    }
  where
    noded : (c : Pc) → is_bare c ≡ false → comes_by true c ≡ true → comes_by false c ≡ true
    noded c off h = grind (arith, off, h)

pub followed_so : (m : World) → IsNoded m → IsFollowedBy true m → IsFollowed m
followed_so m none inv w f c live at on last = noded_comes m none f.lock (inv w f c live at on last)

pub followed_aside_so : (m : World) → IsNoded m → IsFollowedAsideBy true m → IsFollowedAside m
followed_aside_so m none inv w f c live at on last = elim (inv w f c live at on last) [
  | inl h ↦ inl h
  | inr x ↦ inr (noded_comes m none f.lock x)
]

module _ (k : Plan) (s : State Slot View) (st : Runs k s) where
  pub bare_or_noded : IsDeep st.world → SomebodyIsBare s ⊎ IsNoded st.world
  bare_or_noded deep = elim (search_in s.views) [
    | inl t ↦
        let b = bare_of (frame_in t.view_is.calls.frames t.ctx) t.found in
        inl (record {
          seat = t.id;
          view_is = t.view_is;
          at = t.at;
          ctx = t.ctx;
          frame = b.frame;
          row = b.row;
          live = b.live;
          place = b.place;
          bare = b.bare;
          deep = from t b t.view_is.who.number refl;
        })
    | inr none ↦ inr (λ w f c live at.
        let t = framed k s st w f live in
        let low : w.ctx < 6 = (elim (cases_lt w.ctx 6) [
          | inl lt ↦ lt
          | inr ge ↦ absurd (none_some (sym (st.six w ge).0 ∙ live))
        ]) in
        let z = none t.seat.id t.seat.view_is t.seat.at w.ctx low in
        sym (ap bare_at at) ∙ (sym (ap bare_frame t.is) ∙ z))
  ]
    where
      -- its seat has a number, and its frame is one of the world
      from : (t : Found s.views) (b : Bare (frame_in t.view_is.calls.frames t.ctx)) (o : Option ℕ)
          → t.view_is.who.number ≡ o → 4 ≤ t.ctx
      from t b None e =
          let none : t.view_is.calls ≡ no_calls = st.silent t.id t.view_is t.at e in
          absurd (none_some (sym (ap (λ (c : Calls). frame_in c.frames t.ctx) none) ∙ b.live))
      from t b (Some p) e =
          deep (waiter p t.ctx) b.frame b.row
          ((st.seats t.id t.view_is p t.at e).mirrors.frames t.ctx ∙ b.live) b.place b.bare
