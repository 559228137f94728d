use Rattle.ht_legacy_blocks.proofs.lanes.channel.Goals as goal

pub returns-clause-small : goal.returns-clause-small
returns-clause-small c = record {
  first = c.diagonals.ensures.small;
  second = c.no_row-none.ensures;
  third = c.no_row-none.ensures;
  fourth = c.no_row-none.ensures;
}
