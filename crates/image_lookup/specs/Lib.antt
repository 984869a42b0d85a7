-- What the lookup's functions rely on, and many lookups in one call. What a lookup answers, image_rules defines.
pub mod Many
pub mod Needs
