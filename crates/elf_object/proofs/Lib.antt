-- What rests on the content of an index: the view is readable, its records stand for the object, and an index made of its parts holds what it should.
pub mod Relocated
pub mod Sections
pub mod Symbols
pub mod Object
pub mod Parts
