-- What a file of BLIF (Berkeley Logic Interchange Format) by numbers with nothing wrong in its models is expanded by.
use Rattle.numbered_file.specs.NumberedData.{NumberedData}
use Rattle.numbered_file.specs.Numbered.{file_of}
use Rattle.card_places.specs.CardPlaces.{AreCardPlaces}
use Rattle.local_names.specs.LocalNames.{AreLocalNames}
use Rattle.model_calls.specs.ModelCalls.{AreModelCalls}
use Rattle.net_flatten.specs.declared.called.CalledFile.{CalledFile}

-- the places of its cards, the names of its models, and what its models call
pub record IsCalledFile (d : NumberedData) (c : CalledFile) : Type 0 where
  pub places : AreCardPlaces d c.places
  pub names : AreLocalNames d c.names
  pub calls : AreModelCalls (file_of d) c.calls
