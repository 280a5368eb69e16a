-- The rows R1 and Wr1 of a call of `read_lock` or `write_lock`, by what they met.
use Rattle.std.proofs.Common.{◌≡◌, ℕ, [], append-nil, Bool, Option, true, false, eqb, inl, length}
use Rattle.std.proofs.Common.{refl, sym}
use Rattle.lk_run.proofs.Names.{Manner, Reads, Writes, Wr2, Verb, Read, Write, Calls, Takes, Terms}
use Rattle.lk_run.proofs.Names.{waits_in, HasTaken, SharedBy, IsOf, KeepsRest, calls_of, Cpu}
use Rattle.lk_run.proofs.Names.{Domain, CameIn, biased, starting}
use Rattle.lk_domain.proofs.Standing.{path_upto}
use Rattle.lk_domain.specs.RwRows.{lets_in}
use Rattle.lk_run.proofs.RwPlaces.{empty_by, full_by, is_open_by, is_shut_by}
use Rattle.lk_run.specs.Entering.{HasEntered}
use Rattle.lk_run.specs.PolledRead as read
use Rattle.lk_run.specs.PolledWrite as write
use Rattle.lk_run.proofs.RwRows as row
use Rattle.lk_run.proofs.RwSteps as rw

module _ (d : Domain) (l : ℕ) (a b : Cpu) (rest : KeepsRest a b) (of : IsOf a d)
    (fresh : waits_in (calls_of a).frames l ≡ false) (met : ℕ) (nests : Bool) (told : Option ℕ) where
  module _ (made : SharedBy Read l a.seat.me met b.seat.me) where
    pub reader_enters : lets_in met ≡ true → CameIn d Read l Reads (starting a nests told) b told
    reader_enters is =
        rw.first_enters d Read l a b rest of refl made fresh nests told Reads
        (λ f. row.reader_enters d.plan.mode b.number f made.found (is_open_by met made.found made.word is))

    pub reader_waits : lets_in met ≡ false → read.Began d l (starting a nests told) b told
    reader_waits is =
        rw.first_goes d Read l a b rest of refl made fresh nests told biased (rw.biased_else (length (calls_of a).frames))
        (λ f. row.reader_biases d.plan.mode b.number f made.found (is_shut_by met made.found made.word is))

  module _ (made : SharedBy Write l a.seat.me met b.seat.me) where
    pub writer_enters : eqb met 0 ≡ true → CameIn d Write l Writes (starting a nests told) b told
    writer_enters is =
        rw.first_enters d Write l a b rest of refl made fresh nests told Writes
        (λ f. row.writer_enters d.plan.mode b.number f made.found (empty_by met made.found made.word is))

    pub writer_waits : eqb met 0 ≡ false → write.Began d l (starting a nests told) b told
    writer_waits is =
        rw.first_sets_out d Write l a b rest of refl made fresh nests told Wr2
        (λ f. row.writer_queues d.plan.mode b.number f made.found (full_by met made.found made.word is)) refl (λ e. cc e)

-- who has taken the lock by the last row of a call has entered it, and has no wait lock to free
pub at_once : (t : Terms) (p : ℕ) (v : Verb) (l : ℕ) (m : Manner) (old new : Calls) → HasTaken t p v l m old new
    → HasEntered t p v l m new.last old new
at_once t p v l m old new has =
    record {
      takes = path_upto has.path;
      over = (Takes m, has.path);
      behind = [];
      last = sym (append-nil new.last);
      release = inl refl;
      frames = has.frames;
      holds = has.holds;
      taken = has.taken;
    }
