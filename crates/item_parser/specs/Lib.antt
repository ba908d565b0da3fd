pub mod ItemParts
