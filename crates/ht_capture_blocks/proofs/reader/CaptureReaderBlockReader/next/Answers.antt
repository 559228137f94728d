use Rattle.std.proofs.Common.{◌<◌, ◌≤◌, ◌+◌, [], ◌∷◌, length, subst, arith}
use Rattle.ht_capture.specs.declared.block_item.BlockItem.{BlockItem}
use Rattle.ht_capture.specs.declared.block_item.BlockItem.TheVariants.{Block, Frame}
use Rattle.ht_capture.specs.declared.items.Item.TheVariants.{Frame as FrameItem}
use Rattle.ht_capture.specs.Blocks.{GivesBlockItem}
use Rattle.ht_capture.specs.Readers.{finished, more, shown_by}
use Rattle.ht_capture_blocks.proofs.Coming.{HasCome, has_come}
use Rattle.ht_capture_blocks.proofs.Mapping.{block_counts, completes, gives, gives_block, halts, head_counts, unfinished}
use Rattle.ht_capture_blocks.proofs.reader.CaptureReaderBlockReader.next.Goals as goal
use Rattle.ht_capture_blocks.proofs.reader.CaptureReaderBlockReader.next.Goals.{In-Ok-Frame, In-Ok-Block}

head_came : (g : _) (c : In-Ok-Frame g) → HasCome c.args.most c.args.self.now.reader c.next_block.new.self (g.S.Source.shown c.args.source.now)
    (g.S.Source.shown c.next_block.new.source) (Frame c.in-Ok-Frame.head)
head_came g c =
    let e = c.in-Ok-Frame.ensures in
    has_come _ _ _ _ _ _ c.in-Ok-Frame.field-0 c.in-Ok-Frame.field-0-is c.requires.going e.told e.counted e.going e.fewer

block_came : (g : _) (c : In-Ok-Block g) → HasCome c.args.most c.args.self.now.reader c.next_block.new.self (g.S.Source.shown c.args.source.now)
    (g.S.Source.shown c.next_block.new.source) (Block c.in-Ok-Block.block)
block_came g c =
    let e = c.in-Ok-Block.ensures in
    has_come _ _ _ _ _ _ c.in-Ok-Block.field-0 c.in-Ok-Block.field-0-is c.requires.going e.told e.counted e.going e.fewer

pub returns-in-Ok-Frame-clause-told : goal.returns-in-Ok-Frame-clause-told
returns-in-Ok-Frame-clause-told g c =
    gives c.args.self.now.reader (g.S.Source.shown c.args.source.now) c.next_block.new.self (g.S.Source.shown c.next_block.new.source)
    (FrameItem c.in-Ok-Frame.head ∷ []) (head_came g (goal.at.returns-in-Ok-Frame-clause-told g c).In-Ok-Frame).told

pub returns-in-Ok-Frame-clause-counted : goal.returns-in-Ok-Frame-clause-counted
returns-in-Ok-Frame-clause-counted g c =
    let came = head_came g (goal.at.returns-in-Ok-Frame-clause-counted g c).In-Ok-Frame in
    head_counts c.args.self.now.reader c.next_block.new.self c.in-Ok-Frame.head came.counted came.going came.fewer

pub returns-in-Ok-Frame-clause-never_more : goal.returns-in-Ok-Frame-clause-never_more
returns-in-Ok-Frame-clause-never_more g c =
    let fewer : more c.next_block.new.self < more c.args.self.now.reader =
    (head_came g (goal.at.returns-in-Ok-Frame-clause-never_more g c).In-Ok-Frame).fewer in
    omega (arith, fewer)

pub returns-in-Ok-Block-clause-told : goal.returns-in-Ok-Block-clause-told
returns-in-Ok-Block-clause-told g c =
    gives_block c.args.self.now.reader (g.S.Source.shown c.args.source.now) c.next_block.new.self (g.S.Source.shown c.next_block.new.source)
    c.in-Ok-Block.block (block_came g (goal.at.returns-in-Ok-Block-clause-told g c).In-Ok-Block).told

pub returns-in-Ok-Block-clause-counted : goal.returns-in-Ok-Block-clause-counted
returns-in-Ok-Block-clause-counted g c =
    let came = block_came g (goal.at.returns-in-Ok-Block-clause-counted g c).In-Ok-Block in
    block_counts c.args.most c.args.self.now.reader c.next_block.new.self c.in-Ok-Block.block came.counted came.going came.fewer

pub returns-in-Ok-Block-clause-never_more : goal.returns-in-Ok-Block-clause-never_more
returns-in-Ok-Block-clause-never_more g c =
    let fewer : more c.next_block.new.self + length c.in-Ok-Block.block.present ≤ more c.args.self.now.reader =
    (block_came g (goal.at.returns-in-Ok-Block-clause-never_more g c).In-Ok-Block).fewer in
    omega (arith, fewer)

pub returns-in-Ok-Done-clause-told : goal.returns-in-Ok-Done-clause-told
returns-in-Ok-Done-clause-told g c =
    let old = c.args.self.now.reader in
    let source = g.S.Source.shown c.args.source.now in
    let after = g.S.Source.shown c.next_block.new.source in
    completes old source after
    (subst (λ (item : BlockItem). GivesBlockItem (shown_by old source) (shown_by c.next_block.new.self after) item) c.in-Ok-Done.field-0-is
    (c.in-Ok-Done.ensures.told (unfinished (finished old) c.requires.going)))

pub returns-in-Err-clause-told : goal.returns-in-Err-clause-told
returns-in-Err-clause-told g c =
    halts c.args.self.now.reader (g.S.Source.shown c.args.source.now) c.next_block.new.self (g.S.Source.shown c.next_block.new.source) c.in-Err.fault
    (c.in-Err.ensures.told (unfinished (finished c.args.self.now.reader) c.requires.going))
