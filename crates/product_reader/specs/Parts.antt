-- Parts of a product, by the data of a file that they are made of.
use Rattle.std.specs.Prelude.{List}
use Rattle.toml.specs.Data.{Data, Members}
use Rattle.model_specs.specs.Product.{Step}
use Rattle.curve_pieces.specs.PiecewiseCurves.{PiecewiseCurve}
use Rattle.product_file.specs.Reads.{product_of, transition_of}
use Rattle.product_model.specs.Views.{curve_of}

-- the intensity of a transition over the term
abbrev pub rate_of : Members → Data → PiecewiseCurve
rate_of tree d = curve_of (product_of tree) (transition_of tree d).rate

-- the steps of its sum
abbrev pub sum_of : Members → Data → List Step
sum_of tree d = (transition_of tree d).sum
