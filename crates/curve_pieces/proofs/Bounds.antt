-- Powers of a number of months, and products with them.
use Rattle.std.proofs.Common.{◌≡◌, ℕ, ◌+◌, ◌*◌, ◌^◌, ◌≤◌}
use Rattle.std.proofs.Common.{refl, subst, ◌∙◌, add-one}
use Rattle.std.proofs.Math.Nat.{pow-suc}

pub next_power : (b f m i : ℕ) → b ≡ m ^ i → f ≡ m → b * f ≡ m ^ (i + 1)
next_power b f m i e k = rw (e, k, add-one, pow-suc m i) refl

pub within_limit : (f u n b m i l : ℕ) → f ≡ u → u ≡ n → b ≡ m ^ i → f * b ≤ l → n * m ^ i ≤ l
within_limit f u n b m i l e k p h =
    let P : ℕ → Type 0 = λ z. z * m ^ i ≤ l in
    subst P (e ∙ k) (rw p at h)
