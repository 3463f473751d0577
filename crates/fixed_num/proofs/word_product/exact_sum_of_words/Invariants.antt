use Rattle.fixed_num.proofs.Terms.{IsPartialSum}
use Rattle.fixed_num.proofs.word_product.exact_sum_of_words.Given as goal

abbrev pub invariant-loop-i : goal.invariant-loop-i
invariant-loop-i l = IsPartialSum l.a l.v l.i l.sum
