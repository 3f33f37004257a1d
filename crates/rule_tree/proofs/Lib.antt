mod SaidRules
mod SaidTwice
mod WrittenRules
