use Rattle.std.proofs.Common.{◌∙◌, rules}
use Rattle.ht_capture.proofs.Turns.{gives_answer}
use Rattle.ht_capture.proofs.reader.Reader.next.Goals as goal

pub returns : goal.returns
returns g c =
    record {
      told = λ going.
          gives_answer _ _ _ _ c.answer.result c.in_ok-ready.ensures.told c.in_ok-ready.ensures.later
          (c.answer.ensures.told (c.in_ok-ready.ensures.going ∙ going));
      counted = search rules;
      placed = search rules;
      going = search rules;
      later = search rules;
      again = search rules;
      stopped = search rules;
      done = search rules;
      fewer = search rules;
      memory = search rules;
    }
