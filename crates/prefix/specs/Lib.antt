-- What the methods of a prefix answer, over the width.
pub mod Prefixes
