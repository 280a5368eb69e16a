-- The frame that goes on from an operation that has ended shows nothing, and runs the same program.
use Rattle.std.proofs.Common.{◌≡◌, ◌≢◌, inl, inr, ◌<◌, Option, Some, None, sym, ap, ◌∙◌, subst}
use Rattle.std.proofs.Common.{arith}
use Rattle.lk_progress.proofs.Names.{eqb-true, Mode, Cna, Native, Pv, Virt, first_place, started}
use Rattle.lk_progress.proofs.Names.{Frame, R3, Verb, Lock, RUnlock, Read, Try, TryRead, TryWrite}
use Rattle.lk_progress.proofs.Names.{Unlock, WUnlock, Write, IsQuietFrame, ReadsAlone}
use Rattle.lk_waits.proofs.Quiet.{IsQuietRow, first_quiet}
use Rattle.lk_progress.proofs.Moves.{Settles}

first_not_R3 : (mode : Mode) (v : Verb) → Some (first_place mode v) ≢ Some R3
first_not_R3 Virt Unlock e = cc e
first_not_R3 Native Unlock e = cc e
first_not_R3 Cna Unlock e = cc e
first_not_R3 Pv Unlock e = cc e
first_not_R3 mode Lock e = cc e
first_not_R3 mode Try e = cc e
first_not_R3 mode Read e = cc e
first_not_R3 mode Write e = cc e
first_not_R3 mode TryRead e = cc e
first_not_R3 mode TryWrite e = cc e
first_not_R3 mode RUnlock e = cc e
first_not_R3 mode WUnlock e = cc e

pub settled_quiet : (mode : Mode) (h : Frame) (o : Option Frame) → Settles mode h o → (g : Frame) → o ≡ Some g → IsQuietFrame g
settled_quiet mode h o (inl e) g q = λ c p. absurd (let z : None ≡ Some g = sym e ∙ q in cc z)
settled_quiet mode h o (inr (inl e)) g q = λ c p.
    (let z : Some (record h { place = None }) ≡ Some g = sym e.0 ∙ q in
    let y : record h { place = None } ≡ g = cc z in
    absurd (let x : None ≡ Some c = ap (λ (f : Frame). f.place) y ∙ p in cc x))
settled_quiet mode h o (inr (inr v)) g q = λ c p.
    (let z : Some (started mode h v.0) ≡ Some g = sym v.1 ∙ q in
    let y : started mode h v.0 ≡ g = cc z in
    let x : Some (first_place mode v.0.verb) ≡ Some c = ap (λ (f : Frame). f.place) y ∙ p in
    let i : first_place mode v.0.verb ≡ c = cc x in
    subst IsQuietRow i (first_quiet mode v.0.verb))

-- the program and the context of a frame that goes on, and its place where it is that of a handler
pub settled_same : (mode : Mode) (h : Frame) (o : Option Frame) → Settles mode h o → (g : Frame) → o ≡ Some g
    → (g.program ≡ h.program) × (0 < h.ctx → g.place ≢ None)
settled_same mode h o (inl e) g q = absurd (let z : None ≡ Some g = sym e ∙ q in cc z)
settled_same mode h o (inr (inl e)) g q =
    let z : Some (record h { place = None }) ≡ Some g = sym e.0 ∙ q in
    let y : record h { place = None } ≡ g = cc z in
    let zero_ctx = eqb-true h.ctx 0 e.1 in
    (ap (λ (f : Frame). f.program) (sym y), λ lt. absurd (omega (arith, lt, zero_ctx)))
settled_same mode h o (inr (inr v)) g q =
    let z : Some (started mode h v.0) ≡ Some g = sym v.1 ∙ q in
    let y : started mode h v.0 ≡ g = cc z in
    (ap (λ (f : Frame). f.program) (sym y), λ lt e. (let x : Some (first_place mode v.0.verb) ≡ None = ap (λ (f : Frame). f.place) y ∙ e in cc x))

pub settled_reads : (mode : Mode) (h : Frame) (o : Option Frame) → Settles mode h o → (g : Frame) → o ≡ Some g
    → 0 < h.ctx → ReadsAlone g
settled_reads mode h o (inl e) g q up = absurd (let z : None ≡ Some g = sym e ∙ q in cc z)
settled_reads mode h o (inr (inl e)) g q up =
    let zero_ctx = eqb-true h.ctx 0 e.1 in absurd (omega (arith, up, zero_ctx))
settled_reads mode h o (inr (inr v)) g q up =
    let z : Some (started mode h v.0) ≡ Some g = sym v.1 ∙ q in
    let y : started mode h v.0 ≡ g = cc z in
    subst ReadsAlone y (first_not_R3 mode v.0.verb, λ w. cc w)
