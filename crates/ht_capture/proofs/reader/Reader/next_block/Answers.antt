use Rattle.std.proofs.Common.{◌∙◌, ap, rules}
use Rattle.ht_capture.specs.Readers.{Progress, finished}
use Rattle.ht_capture.proofs.Lending.{gives_block_answer}
use Rattle.ht_capture.proofs.reader.Reader.next_block.Goals as goal

pub returns : goal.returns
returns g c =
    record {
      told = λ going.
          gives_block_answer _ _ _ c.answer_block.result c.in_ok-ready.ensures.told c.in_ok-ready.ensures.later
          (c.answer_block.ensures.told (c.in_ok-ready.ensures.going ∙ going));
      counted = search rules;
      placed = search rules;
      going = search rules;
      later = search rules;
      again = λ answer is.
          let still = c.in_ok-ready.ensures.again answer is in
          let told = c.answer_block.ensures.again answer (ap (λ (r : Progress). finished r) still.1 ∙ is) in
          (told.0, told.1 ∙ still.1, told.2 ∙ still.2);
      fewer = search rules;
    }
