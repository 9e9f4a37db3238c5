-- The number of each refusal of a lent store.
use Rattle.std.specs.Prelude.{ℕ}
use Rattle.window.specs.declared.answers.StoreRefusal.{StoreRefusal}
use Rattle.window.specs.declared.answers.StoreRefusal.TheVariants.{WrongLength}

-- a store that has not the length wanted
abbrev pub store_refusal_of : StoreRefusal → ℕ
store_refusal_of WrongLength = 5
