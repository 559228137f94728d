-- A run that is under way.
use Rattle.std.specs.Prelude.{ℕ, List}
use Rattle.ht_io.specs.Devices.{Device, Grows, IsLater}
use Rattle.ht_fields.specs.Grammar.{Grammar}
use Rattle.ht_fields.specs.Readers.{ReaderView, Gives, reader_in}

-- the octets taken gave these items to the reader, which is where it is now, and their lines were put
pub record Goes {S I : Type 0} (f : Grammar S I) (lines_of : List I → List ℕ) (source sink : Device ℕ)
    (reader : ReaderView I) (sink' : Device ℕ) (items : List I) : Type 0 where
  pub gives : Gives (reader_in f f.start 0 source) reader items
  pub put : Grows sink sink' (lines_of items)
  pub reads_later : IsLater source reader.source
  pub puts_later : IsLater sink sink'
