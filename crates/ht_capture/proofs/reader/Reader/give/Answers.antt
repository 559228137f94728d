use Rattle.std.proofs.Common.{◌≡◌, [], ◌∷◌, sym, subst, rules}
use Rattle.ht_fields.specs.Readers.{Gives}
use Rattle.ht_capture.specs.declared.items.Item.TheVariants.{Job}
use Rattle.ht_capture.specs.declared.stage.Stage.{Stage}
use Rattle.ht_capture.specs.declared.stage.Stage.TheVariants.{Giving}
use Rattle.ht_capture.specs.Readers.{shown_at, shown_by}
use Rattle.ht_capture.proofs.Symbols.{gives_joined}
use Rattle.ht_capture.proofs.reader.Reader.give.Goals as goal

pub returns : goal.returns
returns c =
    let old = c.self.inside in
    let due = c.args.due.now in
    let k = c.args.k in
    let is : old.stage ≡ Giving due k = rw (← c.self.view_is) at c.requires.stage in
    record {
      told = λ source.
          rw (← c.self.view_is)
          (subst
          (λ (s : Stage). Gives (shown_at s old.at old.present.items old.samples.items source) (shown_by c.move_past.new.self source)
          (Job c.job_of-job.result ∷ []))
          (sym is)
          (gives_joined due k old.at _ _ _ _ source _ _ c.deref.ensures.value c.deref-2.ensures.value (c.job_of-job.ensures.told source)
          (rw (← c.self.view_is) at (c.move_past.ensures.told source))));
      counted = search rules;
      placed = search rules;
      going = search rules;
      fewer = search rules;
    }
