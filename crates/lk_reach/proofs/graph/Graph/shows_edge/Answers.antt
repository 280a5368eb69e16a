use Rattle.lk_reach.proofs.apart.Going.{apart_folded, apart_plain, shown, within}
use Rattle.lk_reach.proofs.graph.Graph.shows_edge.Goals as goal

pub make_others-requires : goal.make_others-requires
make_others-requires c =
    let g = c.args.self.now in
    let both = within g c.requires.graph c.args.state c.args.act c.in-Some.then c.in-Some.ensures.some in
    record { there = both.0; other = both.1; few = c.requires.graph.few }

pub makes_other-requires : goal.makes_other-requires
makes_other-requires c =
    let g = c.args.self.now in
    let both = within g c.requires.graph c.args.state c.args.act c.in-Some.then c.in-Some.ensures.some in
    record { few = c.requires.graph.few; there = both.0; other = both.1 }

pub returns-then-self : goal.returns-then-self
returns-then-self c = λ yes.
    let g = c.args.self.now in
    let is = c.requires.graph in
    let leads = c.in-Some.ensures.some in
    let apart = apart_folded g is c.args.state c.in-Some.then (c.make_others.ensures yes) in
    shown g is c.args.state c.args.act c.in-Some.then leads apart

pub returns-else-self : goal.returns-else-self
returns-else-self c = λ yes.
    let g = c.args.self.now in
    let is = c.requires.graph in
    let leads = c.in-Some.ensures.some in
    let apart = apart_plain g is c.if-self.false c.args.state c.in-Some.then (c.makes_other.ensures yes) in
    shown g is c.args.state c.args.act c.in-Some.then leads apart
