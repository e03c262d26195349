mod Counting
mod Heading
mod Packing
