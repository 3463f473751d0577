use Rattle.fixed_num.specs.Products.{items_at}
use Rattle.fixed_num.proofs.Terms.{IsPartialSum}
use Rattle.fixed_num.proofs.word_product.products_at.Given as goal

abbrev pub invariant-loop-i : goal.invariant-loop-i
invariant-loop-i l = IsPartialSum l.a (items_at l.v l.places) l.i l.sum
