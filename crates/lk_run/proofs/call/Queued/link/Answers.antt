use Rattle.std.proofs.Common.{List, None, ap, arith, inl, inr, le-ltb, length, lt-ltb, ltb, suc}
use Rattle.std.proofs.Common.{sym, ℕ, ◌+◌, ◌∙◌, ◌≡◌}
use Rattle.std.proofs.lemmas.Bool.{cases_lt}
use Rattle.lk_run.proofs.Names.{G6, Named, Running, calls_of, Owns}
use Rattle.lk_domain.specs.Calls.{is_inner}
use Rattle.lk_run.proofs.Rows as row
use Rattle.lk_run.proofs.Calling as on
use Rattle.lk_run.proofs.call.Queued.link.Goals as goal

pub link-requires-clause-row : goal.link-requires-clause-row
link-requires-clause-row c =
    let at = c.requires.waits.waits.looked.at in
    record {
      lock = c.args.self.now.call.lock;
      at = on.at_row c.requires.waits;
      prev = at.has.prev;
      me = at.has.owns.me;
      marks = ap (ltb 1) c.depth-inner.ensures ∙ inner_by at.frame.ctx (length (calls_of c.args.cpu.now).frames) frames;
    }
  where
    frames : length (calls_of c.args.cpu.now).frames ≡ 1 + c.requires.waits.waits.looked.at.frame.ctx
    frames =
        let e : length (calls_of c.args.cpu.now).frames ≡ suc (length c.requires.waits.start.calls.frames) =
        ap (λ (rs : List Running). length rs) c.requires.waits.waits.looked.at.frames in
        let ctx = c.requires.waits.waits.looked.at.ctx in omega (arith, e, ctx)

    inner_by : (n d : ℕ) → d ≡ 1 + n → ltb 1 d ≡ is_inner n
    inner_by n d e =
        elim (cases_lt 0 n) [
          | inl h ↦ lt-ltb 1 d (omega (arith, e, h)) ∙ sym (lt-ltb 0 n h)
          | inr h ↦ le-ltb 1 d (omega (arith, e, h)) ∙ sym (le-ltb 0 n (omega (arith, h)))
        ]

pub returns : goal.returns
returns c =
    on.steps_by c.requires.waits.domain c.link.ensures.rest (Named None) (λ i. (c.link.ensures.row.by i).0) G6 (Owns c.args.self.now.own) (λ e. cc e)
    (λ f has. row.links _ _ f c.requires.waits.domain.awake c.args.self.now.own c.args.prev has)
