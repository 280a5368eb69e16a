use Rattle.std.proofs.Common.{◌∙◌}
use Rattle.lk_command.proofs.exit.answer.Goals as goal

pub returns : goal.returns
returns g c =
    let came = c.run.ensures in (
      c.run.result,
      c.from.ensures ∙ c.number.ensures,
      record {
        does = record {
          usage = came.usage;
          unread = came.unread;
          untouched = came.untouched;
          memory = came.memory;
          replays = λ asks. record {
            means = came.means asks;
            complete = λ bytes setup acts. came.complete bytes setup acts asks;
            exact = λ bytes line why setup acts. came.exact bytes line why setup acts asks;
          };
          osq = came.osq;
          audits = came.audits;
          ledger = came.ledger;
          generates = came.generates;
          loads = came.loads;
        };
        noted = came.noted;
      },
    )
