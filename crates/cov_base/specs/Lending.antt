-- What a list is once its items were lent.
use Rattle.std.specs.Prelude.{List, ◌++◌, length, take, drop}

-- the items behind the loan, which are as many as before
abbrev pub with_items : {T : Type 0} → List T → List T → List T
with_items old items = take (length old) (items ++ drop (length items) old)
