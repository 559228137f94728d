use Rattle.std.proofs.Common.{ℕ, ◌*◌, ◌/◌, ap, ◌∙◌}
use Rattle.ht_rate.specs.Rates.{stream_bits_of, encoders_of}
use Rattle.ht_parse.specs.Groups.{rounds_of}
use Rattle.ht_parse.proofs.layout.Layout.of.Goals as goal

pub invariant_of-result : goal.invariant_of-result
unfolding rounds_of
invariant_of-result c = record {
  sizes = record {
    encoders_is = c.from-encoders.ensures ∙ c.encoders.ensures.value;
    streams_is = c.from.ensures ∙ c.streams.ensures.value;
    group_is = c.from-group.ensures ∙ c.axis_bits.ensures.value;
    rounds_is =
        ap (λ (n : ℕ). n / (c.from-encoders.result * c.from-group.result)) (c.from-2.ensures ∙ c.stream_bits.ensures.value)
        ∙ (ap (λ (n : ℕ). stream_bits_of c.args.rate.now / (n * c.from-group.result)) (c.from-encoders.ensures ∙ c.encoders.ensures.value)
        ∙ ap (λ (n : ℕ). stream_bits_of c.args.rate.now / (encoders_of c.args.rate.now * n)) (c.from-group.ensures ∙ c.axis_bits.ensures.value));
  };
}
