-- The channels of a frame in columns.
use Rattle.std.specs.Prelude.{◌≡◌, List, map}
use Rattle.ht_metric.specs.Jobs.{JobView}
use Rattle.ht_rate.specs.Rates.{modulation_of, streams_of}
use Rattle.ht_rounding.specs.Columns.{AreColumns, ColumnsView}
use Rattle.ht_capture.specs.declared.items.FrameHead.{FrameHead}
use Rattle.ht_capture.specs.declared.template.Template.{Template}

-- the jobs of templates
abbrev pub template_jobs : List Template → List JobView
template_jobs templates = map (λ t. t.job) templates

-- columns have the channels of these templates, which are of a frame with this head
pub record HasColumns (head : FrameHead) (templates : List Template) (columns : ColumnsView) : Type 0 where
  pub modulation : columns.modulation ≡ modulation_of head.rate
  pub streams : columns.streams ≡ streams_of head.rate
  pub channels : AreColumns (template_jobs templates) columns
